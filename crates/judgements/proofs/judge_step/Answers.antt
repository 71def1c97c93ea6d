-- Under a right head the step is taken on the event that the record names, as the layout sees it; the record is right where it shows
-- what the step answered and left.
use mathlib.Core.Path.{◌≡◌, sym, ap, ◌∙◌}
use mathlib.Core.Bool.{Bool, true, false}
use mathlib.Core.List.{List}
use mathlib.Core.Logic.{◌↔◌}
use Prim.Native.Nat.{ℕ}
use borrow.Author.Rules.{rules}
use Rattle.rules.specs.declared.event.Event.{Event}
use Rattle.rules.specs.declared.verdict.Answer.{Answer}
use Rattle.rules.specs.Known.{seen}
use Rattle.rules.specs.Step.{answer, after}
use Rattle.words.specs.Word.{Bytes}
use Rattle.words.proofs.Spell.{bytes_take}
use Rattle.records.proofs.Judging.{judged_by}
use Rattle.records.proofs.Lawfuls.{lawful, answered_wide, stepped_wide}
use Rattle.records.specs.Judged.{narrow, IsWide, Shows, JudgedWide}
use Rattle.records.specs.Layout.{layout, step_size}
use Rattle.records.specs.Report.{WRONG_STEP, head_number, event_of}
use Rattle.records.specs.Which.{old}
use Rattle.judgements.proofs.judge_step.Goals as goal

module _ (old : Bool) (r : List ℕ) where
  -- the head is judged by the size and the kind of the layout
  abbrev Headed : Type 0
  Headed = head_number (step_size (layout old)) (layout old).step_kind r ≡ 0

  headed : (size kind : ℕ) → size ≡ step_size (layout old) → kind ≡ (layout old).step_kind → 0 ≡ head_number size kind r → Headed
  headed size kind p q e = sym (e ∙ (λ i. head_number (p i) (q i) r))

  -- by whether the record shows what the step answered and left
  module _ (block : List ℕ) (w : IsWide old block) (e : Event) (named : e ≡ seen old (event_of r)) (x : Answer) (l : List ℕ)
      (answers : x ≡ answer block e) (leaves : l ≡ after block e) where
    judged : Bytes r → Bytes block → Headed → (t : Bool) → (t ≡ true) ↔ Shows (layout old) r x (narrow old l)
        → (t ≡ false → JudgedWide old r block WRONG_STEP l) × (t ≡ true → JudgedWide old r block 0 l)
    judged by bytes h t shows =
        let goes = stepped_wide old block w (event_of r) l (leaves ∙ ap (after block) named) in
        let told = answers ∙ ap (answer block) named ∙ answered_wide old block w (event_of r) in
        let judgement = judged_by (layout old) (lawful old) r (narrow old block) w.size by
        (bytes_take (layout old).size block bytes) h (narrow old l) x told goes.0 shows in (
          (λ f. record { judged = judgement.0 f; still = λ z. goes.1 }),
          (λ t. record { judged = judgement.1 t; still = λ z. goes.1 }),
        )

pub returns-then-not-shows : goal.returns-then-not-shows
returns-then-not-shows c =
    let t = old c.args.layout in
    let r = c.args.r.now in
    let block = c.args.block.now in
    let h = headed t r _ _ c.step_size.ensures c.step_kind.ensures c.in_ok-judge_head.ensures in
    let ran = c.step_event-answer.ensures in
    let bytes : Bytes block = search rules in
    (judged t r block c.requires _ c.event_of.ensures _ _ ran.answers ran.leaves (λ i. (c.type_inv.r i).fits) bytes h _ c.shows.ensures).0
    c.if-not-shows.true

pub returns : goal.returns
returns c =
    let t = old c.args.layout in
    let r = c.args.r.now in
    let block = c.args.block.now in
    let h = headed t r _ _ c.step_size.ensures c.step_kind.ensures c.in_ok-judge_head.ensures in
    let ran = c.step_event-answer.ensures in
    let bytes : Bytes block = search rules in
    (judged t r block c.requires _ c.event_of.ensures _ _ ran.answers ran.leaves (λ i. (c.type_inv.r i).fits) bytes h _ c.shows.ensures).1
    c.if-not-shows.false
