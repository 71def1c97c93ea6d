-- The decision table says what the machine does: with one line alone nothing stands before its physical exception in the order,
-- so a check takes it exactly if it can be taken, and there the entry is the number of where it goes.
use Rattle.std.specs.Prelude.{if◌then◌else◌}
use mathlib.Core.Path.{◌≡◌, refl, sym, ap, subst, ◌∙◌}
use mathlib.Core.Bool.{Bool, true, false, not, ◌&&◌, ◌||◌}
use mathlib.Core.List.{List}
use mathlib.Core.Logic.{inl, inr}
use Prim.Native.Nat.{ℕ}
use lib.ListN.{length}
use borrow.Author.Tests.{eq-eqb, eqb-true, eqb-false}
use Rattle.words.specs.Word.{word}
use Rattle.state.specs.Choice.{◌is◌}
use Rattle.state.specs.Field.{mode_field, SCR_NS, HCR_TGE}
use Rattle.state.specs.Mode.{MONITOR, HYP}
use Rattle.state.specs.Number.{DONE}
use Rattle.state.specs.Place.{BLOCK_SIZE, CPSR, SCR, HCR}
use Rattle.state.specs.State.{fault, secure}
use Rattle.state.proofs.Good.{stands, parts_of_good}
use Rattle.state.proofs.Test.{both, true_is_not_false}
use Rattle.entry.specs.Way.{Way, Barred, Enter}
use Rattle.interrupts.specs.Check.{goes, way}
use Rattle.interrupts.specs.Decision.{NOT_TAKEN, TO_MONITOR, TO_HYP, TO_DEFAULT, physical, line_alone, target_by, target_number}
use Rattle.interrupts.specs.Exception.{order}
use Rattle.interrupts.specs.Kind.{Kind, serror, fiq, irq, line, R, M, own_mode}
use Rattle.interrupts.specs.Takeable.{pending, takeable}
use Rattle.interrupts.specs.declared.exception.Exception.{Exception}
use Rattle.interrupts.proofs.Decisions.{decides}
use Rattle.rules.specs.Event.{bad_event}
use Rattle.rules.specs.Refusal.{refusal}
use Rattle.rules.specs.declared.event.Event.{Event}
use Rattle.rules.proofs.Deciding.{fault_clear}
use Rattle.machine.specs.Claims.{OneOf, TheFirst, this, another, CanBeTaken, EntersBy, Takes, alone, decision, Decided}
use Rattle.machine.proofs.Checking.{can_be, exactly, the_first, first_is}

-- ---- a check with one line

-- no row refuses it on a good block
done : (k : Kind) (b : List ℕ) → length b ≡ BLOCK_SIZE → fault b ≡ DONE → refusal b (alone k b) ≡ DONE
unfolding refusal bad_event
done serror b size good = rw (eq-eqb (length b) BLOCK_SIZE size, (fault_clear b good).0, (fault_clear b good).1)
done fiq b size good = rw (eq-eqb (length b) BLOCK_SIZE size, (fault_clear b good).0, (fault_clear b good).1)
done irq b size good = rw (eq-eqb (length b) BLOCK_SIZE size, (fault_clear b good).0, (fault_clear b good).1)

its_line : (k : Kind) → line k (line_alone k) ≡ true
its_line serror = refl
its_line fiq = refl
its_line irq = refl

-- if its exception can be taken it is the first that can
is_first : (k : Kind) (b : List ℕ) (x : Exception) → CanBeTaken b (alone k b) (physical k)
    → TheFirst (CanBeTaken b (alone k b)) order x → x ≡ physical k
unfolding pending
is_first serror b x can (this p) = refl
is_first serror b x can (another n t) = absurd (n can)
is_first fiq b x can (this p) = absurd (true_is_not_false p.is_pending refl)
is_first fiq b x can (another n (this p)) = refl
is_first fiq b x can (another n (another m t)) = absurd (m can)
is_first irq b x can (this p) = absurd (true_is_not_false p.is_pending refl)
is_first irq b x can (another n (this p)) = absurd (true_is_not_false p.is_pending refl)
is_first irq b x can (another n (another m (this p))) = refl
is_first irq b x can (another n (another m (another l t))) = absurd (l can)

-- ---- a good block in Hyp mode is not Secure

with_false : (t : Bool) → (t && false) ≡ false
with_false true = refl
with_false false = refl

in_hyp : (ns tge : Bool) → stands HYP ns tge ≡ true → ((not ns || HYP is MONITOR) && HYP is HYP) ≡ false
in_hyp true tge h = refl
in_hyp false tge h = absurd (true_is_not_false h refl)

apart : (m : ℕ) (ns tge : Bool) → stands m ns tge ≡ true → ((not ns || m is MONITOR) && m is HYP) ≡ false
apart m ns tge h = by (m is HYP) refl
  where
    by : (t : Bool) → (m is HYP) ≡ t → ((not ns || m is MONITOR) && m is HYP) ≡ false
    by true e = let q = eqb-true m HYP e in rw q (in_hyp ns tge (rw q at h))
    by false e = rw e (with_false (not ns || m is MONITOR))

-- ---- the numbers of the table

some_target : (to : ℕ) → target_number to ≡ NOT_TAKEN → ⊥
some_target to = by (to is MONITOR) (to is HYP)
  where
    by : (m h : Bool) → (if m then TO_MONITOR else (if h then TO_HYP else TO_DEFAULT)) ≡ NOT_TAKEN → ⊥
    by true h e = eqb-false TO_MONITOR NOT_TAKEN refl e
    by false true e = eqb-false TO_HYP NOT_TAKEN refl e
    by false false e = eqb-false TO_DEFAULT NOT_TAKEN refl e

read_back : (k : Kind) (r is_to_hyp : Bool)
    → let to = if r then MONITOR else (if is_to_hyp then HYP else own_mode k) in target_by k (target_number to) ≡ to
read_back k true is_to_hyp = refl
read_back k false true = refl
read_back serror false false = refl
read_back fiq false false = refl
read_back irq false false = refl

-- ---- the target of a way

abbrev target_in : Way → ℕ
target_in (Barred n) = 0
target_in (Enter to offset link) = to

-- ---- what the table says of a block

module _ (k : Kind) (b : List ℕ) (size : length b ≡ BLOCK_SIZE) (good : fault b ≡ DONE) where
  abbrev here : Event
  here = alone k b

  abbrev can : Bool
  can = takeable (physical k) (line_alone k) (word b CPSR) (word b SCR) (word b HCR)

  abbrev to : ℕ
  to = goes k (word b CPSR) (word b SCR) (word b HCR)

  said : decision k b ≡ (if can then target_number to else NOT_TAKEN)
  unfolding fault
  said =
      let g = parts_of_good (word b CPSR) (word b SCR) (word b HCR) good in
      let h = apart (mode_field (word b CPSR)) (SCR_NS (word b SCR)) (HCR_TGE (word b HCR)) g.standing in
      rw (its_line k) at (decides k (line_alone k) (word b CPSR) (word b SCR) (word b HCR) h)

  says_where : can ≡ true → decision k b ≡ target_number to
  says_where e = said ∙ rw e

  -- an entry of its exception shows that it could be taken
  could : EntersBy b here (physical k) → can ≡ true
  unfolding takeable
  could p =
      let c = first_is order (the_first b here (done k b size good) refl (physical k) p) in
      both c.is_pending (ap not c.not_masked)

  routed : (p : EntersBy b here (physical k)) → p.to ≡ to
  unfolding way
  routed p = by k p
    where
      by : (k : Kind) (p : EntersBy b (alone k b) (physical k)) → p.to ≡ goes k (word b CPSR) (word b SCR) (word b HCR)
      by serror p = sym (ap target_in p.routing)
      by fiq p = sym (ap target_in p.routing)
      by irq p = sym (ap target_in p.routing)

  takes : can ≡ true → EntersBy b here (physical k)
  takes e = entered ((exactly b here no_row refl).1 (among k (can_be b here (physical k) e)))
    where
      no_row : refusal b here ≡ DONE
      no_row = done k b size good

      among : (k : Kind) → CanBeTaken b (alone k b) (physical k) → OneOf (CanBeTaken b (alone k b)) order
      among serror c = inl c
      among fiq c = inr (inl c)
      among irq c = inr (inr (inl c))

      entered : Takes b here → EntersBy b here (physical k)
      entered t =
          let q = is_first k b t.exception (can_be b here (physical k) e) (the_first b here no_row refl t.exception t.entry) in
          subst (EntersBy b here) q t.entry

  pub decided : Decided k b
  decided = record {
    taken = λ n. by can refl n;
    only = λ p e. some_target to (sym (says_where (could p)) ∙ e);
    goes = λ p. routed p ∙ sym (ap (target_by k) (says_where (could p)) ∙ back);
  }
    where
      by : (t : Bool) → can ≡ t → (decision k b ≡ NOT_TAKEN → ⊥) → EntersBy b here (physical k)
      by true e n = takes e
      by false e n = absurd (n (said ∙ rw e))

      back : target_by k (target_number to) ≡ to
      back =
          let sec = secure (word b CPSR) (word b SCR) in
          let hyp = mode_field (word b CPSR) is HYP in
          read_back k (R k (word b SCR)) (hyp || (not sec && (HCR_TGE (word b HCR) || M k (word b HCR))))
