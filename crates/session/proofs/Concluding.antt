-- What is concluded of the record due is what the definition says of it.
use Rattle.std.proofs.Common.{◌≡◌, ℕ, List, Result, Ok, Err, IfOk, IfErr, sym, ◌∙◌, arith}
use Rattle.state.specs.Refusal.{number}
use Rattle.state.specs.declared.refusal.Refusal.{Refusal}
use Rattle.records.specs.declared.session.Progress.{Progress}
use Rattle.records.specs.declared.session.Session.{Session}
use Rattle.records.specs.Layout.{Layout}
use Rattle.records.specs.Report.{ACCEPTED}
use Rattle.records.specs.Session.{session, due_count, faulty, judged}
use Rattle.records.specs.Fed.{Due, concluded}
use Rattle.records.proofs.Feeding.{concluded-judged, judged-faulty}

-- no refusal has the number of what is not refused
pub numbered : (r : Refusal) → number r ≡ 0 → ⊥
numbered r h = grind arith

-- it was judged, o is what was found and c what the block became, and t was concluded
module _ (L : Layout) (p : Progress) (r b c u v : List ℕ) (t : Session) where
  pub concluded_of : (o : Result ℕ Refusal) → IfOk o (λ n. Due L p r b ACCEPTED c × (n ≡ due_count p r))
      → IfErr o (λ fault. Due L p r b (number fault) c)
      → IfOk o (λ n. t ≡ concluded L ACCEPTED p n c)
      → IfErr o (λ fault. t ≡ faulty L (session p c v) (number fault))
      → t ≡ judged L (session p b u) r
  concluded_of (Ok n) due wrong e f = e ∙ concluded-judged L p r b c u ACCEPTED n due.0 due.1
  concluded_of (Err fault) right due e f =
      f ∙ sym (judged-faulty L (session p b u) r (number fault) (sym due.number) (numbered fault))
