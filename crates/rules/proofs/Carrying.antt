-- An action carried out: what is known of one that is the same action, and of the parts that make it.
use Rattle.std.specs.Prelude.{Result, Ok, Err}
use mathlib.Core.Path.{◌≡◌, refl, sym, ap, subst, ◌∙◌}
use mathlib.Core.List.{List}
use mathlib.Core.Bool.{true, false}
use Prim.Native.Nat.{ℕ, ◌<◌}
use borrow.Author.Tests.{eqb-false}
use Rattle.words.specs.Word.{word, put}
use Rattle.words.proofs.Laws.{word-put_other}
use Rattle.state.specs.Choice.{◌is◌}
use Rattle.state.specs.Field.{without}
use Rattle.state.specs.Mode.{is_target}
use Rattle.state.specs.Number.{DONE}
use Rattle.state.specs.Place.{CPSR, SCR, HCR}
use Rattle.entry.specs.Enter.{entered}
use Rattle.interrupts.specs.declared.exception.Exception.{Exception}
use Rattle.interrupts.specs.declared.exception.Exception.TheVariants.{Synchronous, SError, Fiq, Irq}
use Rattle.interrupts.specs.declared.exception.Exception.TheVariants.{VirtualSError, VirtualFiq, VirtualIrq}
use Rattle.rules.specs.Parts.{Told, Carried, CameTo, answer_of}
use Rattle.state.specs.Refusal.{number}
use Rattle.state.specs.declared.refusal.Refusal.{Refusal}
use Rattle.state.specs.declared.refusal.Refusal.TheVariants.{BadSize, BadMode, BadState, BadEvent, NotHere, NoRegister, NoRight}
use Rattle.state.specs.declared.refusal.Refusal.TheVariants.{Short, BadRecord, BadCount, WrongStep, Trailing}
use Rattle.state.specs.declared.refusal.Refusal.TheVariants.{Full, Closed, NoRoom, Disabled, OwnRegister, NotBanked}
use Rattle.rules.specs.Step.{Action, Refuse, Take, va_cleared}
use Rattle.rules.proofs.Sound.{target_small}
use Rattle.rules.specs.Verdict.{Answer, Verdict, entry_to, answer_for}

-- clearing VA leaves the block, or puts one word
pub va_cases : (P : List ℕ → Type 0) (b : List ℕ) (x : Exception) → P b → P (put b HCR (without 8 (word b HCR)))
    → P (va_cleared b x)
va_cases P b Synchronous h k = h
va_cases P b SError h k = h
va_cases P b Fiq h k = h
va_cases P b Irq h k = h
va_cases P b VirtualSError h k = k
va_cases P b VirtualFiq h k = h
va_cases P b VirtualIrq h k = h

-- it moves HCR alone
pub va_other : (b : List ℕ) (x : Exception) (p : ℕ) → (HCR ≡ p → ⊥) → word (va_cleared b x) p ≡ word b p
va_other b x p n = va_cases (λ l. word l p ≡ word b p) b x refl (word-put_other b HCR _ p n)

module _ (b : List ℕ) (x : Exception) {k : List ℕ} (e : k ≡ va_cleared b x) where
  pub cpsr_stays : {w : ℕ} → w ≡ word b CPSR → w ≡ word k CPSR
  cpsr_stays h = rw e (h ∙ sym (va_other b x CPSR (eqb-false HCR CPSR refl)))

  pub scr_stays : {w : ℕ} → w ≡ word b SCR → w ≡ word k SCR
  scr_stays h = rw e (h ∙ sym (va_other b x SCR (eqb-false HCR SCR refl)))

  pub taken : (to offset link : ℕ) {v : Verdict} {l : List ℕ} → l ≡ entered k to offset link → v ≡ entry_to x to offset
      → is_target to ≡ true → offset < 32 → CameTo b (Take x to offset link) (Ok v) l
  taken to offset link h v t near = record {
    block = h ∙ ap (λ (c : List ℕ). entered c to offset link) e;
    answer = ap answer_for v;
    verdict = v;
    small = rw v (target_small to t, near);
  }

-- the same action
pub same_action : (b : List ℕ) {x y : Action} {o : Result Verdict Refusal} {l : List ℕ} → x ≡ y → CameTo b x o l → CameTo b y o l
same_action b {o = o} {l = l} e h = subst (λ (x : Action). CameTo b x o l) e h

-- no refusal has the number of a done step
pub refuses : (r : Refusal) → (number r is DONE) ≡ false
refuses BadSize = refl
refuses BadMode = refl
refuses BadState = refl
refuses BadEvent = refl
refuses NotHere = refl
refuses NoRegister = refl
refuses NoRight = refl
refuses Short = refl
refuses BadRecord = refl
refuses BadCount = refl
refuses WrongStep = refl
refuses Trailing = refl
refuses Full = refl
refuses Closed = refl
refuses NoRoom = refl
refuses Disabled = refl
refuses OwnRegister = refl
refuses NotBanked = refl

-- a refusal leaves the block
pub refused : (b : List ℕ) (r : Refusal) {y : Action} → Refuse (number r) ≡ y → CameTo b y (Err r) b
refused b r e = same_action b e (record { block = refl; answer = refl; verdict = tt; small = tt })

-- told, over an answer buffer
pub carried : (b : List ℕ) (x : Action) {o : Result Verdict Refusal} {n : ℕ} {l m : List ℕ} → CameTo b x o l
    → Told (answer_of o) n m → Carried b x n l m
carried b x {o} {n} {l} {m} h t = (h.block, subst (λ (a : Answer). Told a n m) h.answer t)
