-- A done step on a good block leaves a good block: where an exception goes its target may stand, and a word that is put leaves
-- the three that a block is judged by, or is tested on the block that it makes.
use mathlib.Core.Path.{◌≡◌, refl, sym, ap, ◌∙◌}
use mathlib.Core.Bool.{Bool, true, false, not, ◌&&◌, ◌||◌}
use mathlib.Core.List.{List}
use Prim.Native.Nat.{ℕ, ◌*◌, ◌/◌, ◌%◌, ◌^◌, ◌<◌}
use native.Mathlib.Nat.{div-div-eq-div-mul}
use native.Mathlib.Omega.{arith}
use lib.Dec.{eqb}
use lib.ListN.{length}
use borrow.Author.Tests.{eqb-true, eqb-false, eq-eqb, not-false}
use Rattle.words.specs.Word.{word, put, Bytes}
use Rattle.words.proofs.Laws.{length-put, bytes_put, word-put_same, word-put_other, spelt_fits}
use Rattle.state.specs.Choice.{◌is◌}
use Rattle.state.specs.Field.{without, mode_field, SCR_NS, HCR_TGE}
use Rattle.state.specs.Mode.{is_target, spsr_place}
use Rattle.state.specs.Number.{DONE}
use Rattle.state.specs.Place.{BLOCK_SIZE, CPSR, PC, SCR, HCR, HDCR}
use Rattle.state.specs.State.{ns_user, ns_el1, fault, fault_of}
use Rattle.state.proofs.Good.{Good, parts_of_good, good_by_parts}
use Rattle.state.proofs.Test.{and_left, and_right, true_is_not_false}
use Rattle.entry.specs.Code.{is_synchronous}
use Rattle.entry.specs.Enter.{entered}
use Rattle.entry.specs.Route as synchronous
use Rattle.entry.proofs.Debug.{here_routed}
use Rattle.entry.specs.Way.{Way, Barred, Enter}
use Rattle.entry.proofs.Keeps as entry
use Rattle.entry.proofs.Targets.{target_is_one}
use Rattle.interrupts.specs.Check as interrupt
use Rattle.interrupts.specs.Kind.{Kind, serror, fiq, irq, mask}
use Rattle.interrupts.specs.Takeable.{virtual_pending, pending, masked, takeable}
use Rattle.interrupts.specs.declared.exception.Exception.{Exception}
use Rattle.interrupts.specs.declared.exception.Exception.TheVariants.{Synchronous, SError, Fiq, Irq}
use Rattle.interrupts.specs.declared.exception.Exception.TheVariants.{VirtualSError, VirtualFiq, VirtualIrq}
use Rattle.interrupts.proofs.Keeps as interrupts
use Rattle.interrupts.proofs.Laws.{found_cases}
use Rattle.interrupts.proofs.Targets as targets
use Rattle.banked.specs.Cell.{cell}
use Rattle.returns.specs.Return.{bad_saved, saved_word, has_saved, cpsr_returned, pc_returned}
use Rattle.returns.proofs.After.{word_good, word_fits}
use Rattle.rules.specs.Event.{RETURN}
use Rattle.rules.specs.declared.event.Event.{Event}
use Rattle.rules.specs.Refusal.{unknown_mode, not_good, refusal}
use Rattle.rules.specs.Step.{taken_by, routed_in, event_way, interrupt_way, checked_in, returned, done_action}
use Rattle.rules.specs.Step.{va_cleared, block_after, after}
use Rattle.rules.proofs.Carrying.{va_cases}
use Rattle.rules.proofs.Deciding.{known_code, by_code}
use Rattle.rules.proofs.Rows.{Passed, passed}
use Rattle.rules.proofs.Sound.{write_a, inside_registers}
use Rattle.machine.proofs.Leaving.{left}

-- the parts of a block without fault
pub goods : (b : List ℕ) → fault b ≡ DONE → Good (word b CPSR) (word b SCR) (word b HCR)
unfolding fault
goods b f = parts_of_good (word b CPSR) (word b SCR) (word b HCR) f

-- taking a virtual SError touches HCR alone, and there VA alone
module _ (b : List ℕ) (size : length b ≡ BLOCK_SIZE) (by : Bytes b) where
  tge_kept : (w : ℕ) → HCR_TGE (without 8 w) ≡ HCR_TGE w
  tge_kept w = ap (λ (n : ℕ). eqb n 1) (kept w)
    where
      above : (w : ℕ) → without 8 w / 2 ^ 9 ≡ w / 2 ^ 9
      above w = omega arith

      kept : (w : ℕ) → without 8 w / 2 ^ 27 % 2 ≡ w / 2 ^ 27 % 2
      kept w =
          ap (λ (n : ℕ). n % 2)
          (sym (div-div-eq-div-mul (without 8 w) (2 ^ 9) (2 ^ 18)) ∙ ap (λ (n : ℕ). n / 2 ^ 18) (above w)
          ∙ div-div-eq-div-mul w (2 ^ 9) (2 ^ 18))

  abbrev pub Alike : List ℕ → Type 0
  Alike v =
      (length v ≡ BLOCK_SIZE)
      × (Bytes v
      × ((word v CPSR ≡ word b CPSR) × ((word v SCR ≡ word b SCR) × (HCR_TGE (word v HCR) ≡ HCR_TGE (word b HCR)))))

  pub alike_cleared : (x : Exception) → Alike (va_cleared b x)
  alike_cleared x =
      let hcr = without 8 (word b HCR) in
      let fits : hcr < 2 ^ 32 = let l = spelt_fits b (4 * HCR) by in omega arith in
      let same : HCR_TGE (word (put b HCR hcr) HCR) ≡ HCR_TGE (word b HCR) =
      ap HCR_TGE (word-put_same b HCR hcr (omega arith) fits) ∙ tge_kept (word b HCR) in
      let kept : (q : ℕ) → (HCR ≡ q → ⊥) → word (put b HCR hcr) q ≡ word b q = word-put_other b HCR hcr in
      va_cases Alike b x (size, (by, (refl, (refl, refl)))) (
        length-put b HCR hcr ∙ size,
        (bytes_put b HCR hcr by, (kept CPSR (eqb-false HCR CPSR refl), (kept SCR (eqb-false HCR SCR refl), same))),
      )

  -- an exception that is taken to a mode that may stand there
  taken_good : (x : Exception) (to offset link : ℕ) → Good (word b CPSR) (word b SCR) (word b HCR) → is_target to ≡ true
      → entry.may_stand (mode_field (word b CPSR)) to (SCR_NS (word b SCR)) (HCR_TGE (word b HCR)) ≡ true
      → fault (entered (va_cleared b x) to offset link) ≡ DONE
  taken_good x to offset link g t h =
      let v : List ℕ = va_cleared b x in
      let a = alike_cleared x in
      let ec = a.1.1.0 in
      let es = a.1.1.1.0 in
      let et = a.1.1.1.1 in
      let gv : Good (word v CPSR) (word v SCR) (word v HCR) =
      record {
        known_mode = rw ec g.known_mode;
        clear = rw ec g.clear;
        standing = rw (ec, es, et) g.standing;
      } in
      entry.entered_good v to a.0 a.1.0 offset link t gv (rw (ec, es, et) h)

  -- by the way that the exception goes
  abbrev StandsWay : Way → Type 0
  StandsWay (Barred n) = Unit {0}
  StandsWay (Enter to offset link) =
      (is_target to ≡ true)
      × (entry.may_stand (mode_field (word b CPSR)) to (SCR_NS (word b SCR)) (HCR_TGE (word b HCR)) ≡ true)

  way_good : (x : Exception) (w : Way) → fault b ≡ DONE → StandsWay w → fault (block_after b (taken_by x w)) ≡ DONE
  way_good x (Barred n) f h = f
  way_good x (Enter to offset link) f h = taken_good x to offset link (goods b f) h.0 h.1

  -- where each exception goes it may stand
  synchronous_stands : (code a : ℕ) → fault b ≡ DONE → is_synchronous code ≡ true
      → synchronous.not_here code a (word b CPSR) (word b SCR) ≡ false
      → synchronous.disabled code (word b CPSR) (word b SCR) (word b HCR) ≡ false
      → StandsWay (event_way b code a)
  unfolding synchronous.way
  synchronous_stands code a f s n d =
      let here = here_routed code a (word b CPSR) (word b SCR) (word b HDCR) in
      rw (here, s, n, d) (
        target_is_one code (routed_in b code a) (word b CPSR) (word b SCR) (word b HCR),
        entry.target_stands code (routed_in b code a) (word b CPSR) (word b SCR) (word b HCR) (goods b f) s (here ∙ n),
      )

  physical_stands : (k : Kind) → fault b ≡ DONE
      → StandsWay (interrupt.physical_way k (word b CPSR) (word b SCR) (word b HCR) (word b PC))
  physical_stands k f = (
    targets.goes_target k (word b CPSR) (word b SCR) (word b HCR),
    interrupts.physical_stands k (word b CPSR) (word b SCR) (word b HCR) (goods b f),
  )

  virtual_stands : (k : Kind) (lines : ℕ) → fault b ≡ DONE
      → (virtual_pending k lines (word b CPSR) (word b SCR) (word b HCR) && not (mask k (word b CPSR))) ≡ true
      → StandsWay (interrupt.virtual_way k (word b PC))
  virtual_stands k lines f h =
      let p = and_left (virtual_pending k lines (word b CPSR) (word b SCR) (word b HCR)) (not (mask k (word b CPSR))) h in
      let q = and_right (ns_user (word b CPSR) (word b SCR) || ns_el1 (word b CPSR) (word b SCR)) _ p in
      let t = and_left (not (HCR_TGE (word b HCR))) _ q in
      (targets.own_target k, interrupts.virtual_stands k (word b CPSR) (word b SCR) (word b HCR) (goods b f) t)

  interrupt_stands : (x : Exception) (lines : ℕ) → fault b ≡ DONE
      → takeable x lines (word b CPSR) (word b SCR) (word b HCR) ≡ true
      → StandsWay (interrupt_way b x)
  unfolding interrupt.way takeable pending masked
  interrupt_stands Synchronous lines f h = tt
  interrupt_stands SError lines f h = physical_stands serror f
  interrupt_stands Fiq lines f h = physical_stands fiq f
  interrupt_stands Irq lines f h = physical_stands irq f
  interrupt_stands VirtualSError lines f h = virtual_stands serror lines f h
  interrupt_stands VirtualFiq lines f h = virtual_stands fiq lines f h
  interrupt_stands VirtualIrq lines f h = virtual_stands irq lines f h

  -- a word put at a register's place leaves the three that a block is judged by
  register_good : (p w : ℕ) → p < CPSR → fault b ≡ DONE → fault (put b p w) ≡ DONE
  unfolding fault
  register_good p w l f = rw (other CPSR (λ e. omega arith), other SCR (λ e. omega arith), other HCR (λ e. omega arith)) f
    where
      other : (q : ℕ) → (p ≡ q → ⊥) → word (put b p w) q ≡ word b q
      other = word-put_other b p w

  -- a return puts into CPSR a word that leaves the block good, and PC is not one of the three
  return_good : (a : ℕ) → fault b ≡ DONE → has_saved b ≡ true → bad_saved (saved_word b) ≡ false
      → fault (block_after b (returned b a)) ≡ DONE
  unfolding fault
  return_good a f t c =
      let saved = spelt_fits b (4 * spsr_place (mode_field (word b CPSR))) by in
      let cpsr = cpsr_returned b in
      let after : word (put b CPSR cpsr) CPSR ≡ cpsr =
      word-put_same b CPSR cpsr (omega arith) (word_fits (word b CPSR) (word b SCR) (word b HCR) (saved_word b) saved) in
      let g = word_good (word b CPSR) (word b SCR) (word b HCR) (saved_word b) (goods b f) c in
      rw (
        beside CPSR (eqb-false PC CPSR refl),
        beside SCR (eqb-false PC SCR refl),
        beside HCR (eqb-false PC HCR refl),
        after,
        word-put_other b CPSR cpsr SCR (eqb-false CPSR SCR refl),
        word-put_other b CPSR cpsr HCR (eqb-false CPSR HCR refl),
      )
      (good_by_parts cpsr (word b SCR) (word b HCR) g.known_mode g.clear g.standing)
    where
      beside : (q : ℕ) → (PC ≡ q → ⊥) → word (block_after b (returned b a)) q ≡ word (put b CPSR (cpsr_returned b)) q
      beside = word-put_other (put b CPSR (cpsr_returned b)) PC (pc_returned b a)

-- a return that no row refuses has a saved word, and a right one
returns_right : (t bad none : Bool) → t ≡ true → (t && (none && bad)) ≡ false → (t && not none) ≡ false → (none ≡ true) × (bad ≡ false)
returns_right true bad true e h k = (refl, h)
returns_right true bad false e h k = absurd (true_is_not_false refl k)
returns_right false bad none e h k = absurd (true_is_not_false e refl)

pub clear_fault : (b : List ℕ) → unknown_mode b ≡ false → not_good b ≡ false → fault b ≡ DONE
unfolding fault fault_of
clear_fault b k g = rw (k, g)

-- by the code of the event
done_good : (b : List ℕ) (code a w : ℕ) → Bytes b → length b ≡ BLOCK_SIZE → fault b ≡ DONE
    → Passed b (record { code = code; a = a; b = w })
    → fault (block_after b (done_action b (record { code = code; a = a; b = w }))) ≡ DONE
done_good b code a w bytes size f p =
    by_code (λ x. fault (block_after b x) ≡ DONE) b code a w
    (λ e.
    found_cases (λ x. fault (block_after b (checked_in b a x)) ≡ DONE) a (word b CPSR) (word b SCR) (word b HCR) f
    (λ x n t. way_good b size bytes x (interrupt_way b x) f (interrupt_stands b size bytes x a f t)))
    (λ e. f)
    (λ e.
    register_good b size bytes (cell a) w
    (inside_registers a (write_a a w (rw e at p.event)) (rw e at p.register)) f)
    (λ e. clear_fault (put b a w) (rw e at p.noted_mode) (rw e at p.noted_good))
    (λ e.
    let r = returns_right (code is RETURN) (bad_saved (saved_word b)) (has_saved b) (eq-eqb code RETURN e) p.saved p.returns in
    return_good b size bytes a f r.0 r.1)
    (λ o.
    let y = known_code code a w p.event o in
    way_good b size bytes Synchronous (event_way b code a) f
    (synchronous_stands b size bytes code a f y (rw y at p.here) (rw y at p.able)))

-- a done step on a good block leaves a good block; a block that is not good is always refused
pub good_stays : (b : List ℕ) (e : Event) → Bytes b → refusal b e ≡ DONE → (fault b ≡ DONE) × (fault (after b e) ≡ DONE)
good_stays b e bytes h =
    let p = passed b e h in
    let size = eqb-true (length b) BLOCK_SIZE (not-false (length b is BLOCK_SIZE) p.sized) in
    let f = clear_fault b p.mode p.good in
    (f, rw (left b e h) (done_good b e.code e.a e.b bytes size f p))
