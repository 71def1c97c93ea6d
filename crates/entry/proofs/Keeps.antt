-- Where a synchronous event goes, a good state stays good: one test over the modes, the codes and the bits. And an entry
-- to a mode that may stand where it goes leaves a good block: once, over the target.
use Rattle.std.proofs.Common.{◌≡◌, ℕ, ◌*◌, ◌/◌, ◌%◌, ◌^◌, ◌<◌, Bool, true, false, not, ◌&&◌, ◌||◌, List, length, sym}
use Rattle.std.proofs.Common.{refl, ap, ◌∙◌, arith, eq-eqb, ne_eqb, if◌then◌else◌}
use mathlib.Core.Bool.{and-true, and-false}
use Rattle.words.specs.Word.{word, put, Bytes}
use Rattle.words.proofs.Laws.{length-put, word-put_same, word-put_other, spelt_fits}
use Rattle.state.specs.Choice.{◌is◌}
use Rattle.state.specs.Field.{bits, without, mode_field, SCR_NS, SCR_EA, HCR_TSC, HCR_TGE}
use Rattle.state.specs.Mode.{USER, MONITOR, HYP, modes, known, el1, is_target, spsr_place, lr_place}
use Rattle.state.specs.Number.{DONE}
use Rattle.state.specs.Place.{BLOCK_SIZE, CPSR, PC, SCR, HCR}
use Rattle.state.specs.State.{fault}
use Rattle.state.proofs.Good.{stands, good_by_parts, Good}
use Rattle.state.proofs.Test.{and_left, and_right, both, implies, implied, every_bit, at_bit, every_of, at_one}
use Rattle.entry.specs.Code.{SMC, HVC, HYP_TRAP, MONITOR_TRAP, synchronous_codes, is_synchronous, is_abort}
use Rattle.entry.specs.Code.{is_general, external, stage2}
use Rattle.entry.specs.Enter.{ns_cleared, cpsr_after, control_place, vector_base, vector, written, entered}
use Rattle.entry.specs.Route.{own_mode, to_monitor, to_hyp, target, not_here}
use Rattle.entry.proofs.Entered.{after_mode, after_clear, its_number, spsr_low, lr_low}
use Rattle.entry.proofs.Entered.{written_saved, written-link, written_pc, written-cpsr, written_other}

-- ---- the rules over the mode and the bits alone

abbrev secure_b : ℕ → Bool → Bool
secure_b m ns = not ns || m is MONITOR

abbrev trapped_b : ℕ → ℕ → Bool → Bool → Bool
trapped_b code m ns tsc = code is SMC && ((not (secure_b m ns) && el1 m) && tsc)

abbrev target_b : ℕ → ℕ → Bool → Bool → Bool → Bool → Bool → Bool → ℕ
target_b code m ns ea tsc tge ext two =
    if code is MONITOR_TRAP || ((is_abort code && (ext && ea)) || (code is SMC && not (trapped_b code m ns tsc))) then MONITOR else
    if trapped_b code m ns tsc || (code is HYP_TRAP || (code is HVC || ((is_abort code && two)
    || (is_general code && (m is HYP || ((not (secure_b m ns) && m is USER) && tge)))))) then HYP else
    own_mode code

target_bits : (code a cpsr scr hcr : ℕ)
    → target code a cpsr scr hcr
    ≡ target_b code (mode_field cpsr) (SCR_NS scr) (SCR_EA scr) (HCR_TSC hcr) (HCR_TGE hcr) (external a) (stage2 a)
unfolding target to_monitor to_hyp
target_bits code a cpsr scr hcr = refl

abbrev not_here_b : ℕ → ℕ → Bool → Bool → Bool
not_here_b code m ns two =
    (code is SMC && m is USER)
    || ((code is HVC && (m is USER || secure_b m ns))
    || ((code is MONITOR_TRAP && m is MONITOR)
    || ((code is HYP_TRAP || (is_abort code && two)) && (secure_b m ns || m is HYP))))

here_bits : (code a cpsr scr : ℕ) → not_here code a cpsr scr ≡ not_here_b code (mode_field cpsr) (SCR_NS scr) (stage2 a)
unfolding not_here
here_bits code a cpsr scr = refl

-- NS after an entry
abbrev pub ns_after : ℕ → ℕ → Bool → Bool
ns_after m to ns = ns && not (m is MONITOR && not (to is HYP))

-- the target may stand where the entry goes
abbrev pub may_stand : ℕ → ℕ → Bool → Bool → Bool
may_stand m to ns tge = known to && stands to (ns_after m to ns) tge

-- ---- the test: what holds of every mode that may stand, every code that may be here and every bit holds of where an event goes

module _ (P : ℕ → ℕ → Bool → Bool → Bool) where
  abbrev goes_to : ℕ → ℕ → Bool → Bool → Bool → Bool → Bool → Bool → Bool
  goes_to m code ns ea tsc tge ext two =
      implies (stands m ns tge && not (not_here_b code m ns two)) (P m (target_b code m ns ea tsc tge ext two) ns tge)

  abbrev everywhere : ℕ → ℕ → Bool
  everywhere m code =
      every_bit (λ ns. every_bit (λ ea. every_bit (λ tsc. every_bit (λ tge.
      every_bit (λ ext. every_bit (goes_to m code ns ea tsc tge ext))))))

  abbrev pub every_event : Bool
  every_event = every_of modes (λ m. every_of synchronous_codes (everywhere m))

  pub of_target : every_event ≡ true → (code a cpsr scr hcr : ℕ) → Good cpsr scr hcr → is_synchronous code ≡ true
      → not_here code a cpsr scr ≡ false
      → P (mode_field cpsr) (target code a cpsr scr hcr) (SCR_NS scr) (HCR_TGE hcr) ≡ true
  unfolding known
  of_target tried code a cpsr scr hcr g c n =
      let m = mode_field cpsr in
      let ns = SCR_NS scr in
      let ea = SCR_EA scr in
      let tsc = HCR_TSC hcr in
      let tge = HCR_TGE hcr in
      let ext = external a in
      let two = stage2 a in
      let at-mode = at_one modes (λ m. every_of synchronous_codes (everywhere m)) tried m g.known_mode in
      let at : everywhere m code ≡ true = at_one synchronous_codes (everywhere m) at-mode code c in
      let k : goes_to m code ns ea tsc tge ext two ≡ true =
      at_bit (goes_to m code ns ea tsc tge ext)
      (at_bit (λ ext. every_bit (goes_to m code ns ea tsc tge ext))
      (at_bit (λ tge. every_bit (λ ext. every_bit (goes_to m code ns ea tsc tge ext)))
      (at_bit (λ tsc. every_bit (λ tge. every_bit (λ ext. every_bit (goes_to m code ns ea tsc tge ext))))
      (at_bit (λ ea. every_bit (λ tsc. every_bit (λ tge. every_bit (λ ext. every_bit (goes_to m code ns ea tsc tge ext)))))
      (at_bit (λ ns. every_bit (λ ea. every_bit (λ tsc. every_bit (λ tge.
      every_bit (λ ext. every_bit (goes_to m code ns ea tsc tge ext)))))) at
      ns) ea) tsc) tge) ext) two in
      let h : not (not_here_b code m ns two) ≡ true = ap not (sym (here_bits code a cpsr scr) ∙ n) in
      rw (target_bits code a cpsr scr hcr)
      (implied (stands m ns tge && not (not_here_b code m ns two)) (P m (target_b code m ns ea tsc tge ext two) ns tge) k
      (both {a = stands m ns tge} g.standing h))

-- so the target may stand there
tried : every_event may_stand ≡ true
unfolding known el1
tried = refl

pub target_stands : (code a cpsr scr hcr : ℕ) → Good cpsr scr hcr → is_synchronous code ≡ true → not_here code a cpsr scr ≡ false
    → may_stand (mode_field cpsr) (target code a cpsr scr hcr) (SCR_NS scr) (HCR_TGE hcr) ≡ true
target_stands = of_target may_stand tried

-- ---- the block after an entry

pub cleared_bit : (w : ℕ) (t : Bool) → SCR_NS (if t then without 0 w else w) ≡ (SCR_NS w && not t)
cleared_bit w true = ne_eqb (without 0 w / 1 % 2) 1 (λ e. omega arith) ∙ sym (and-false (SCR_NS w))
cleared_bit w false = sym (and-true (SCR_NS w))

module _ (b : List ℕ) (to : ℕ) (size : length b ≡ BLOCK_SIZE) (by : Bytes b) where
  abbrev leaves : Bool
  leaves = mode_field (word b CPSR) is MONITOR && not (to is HYP)

  pub cleared_size : length (ns_cleared b to) ≡ BLOCK_SIZE
  unfolding ns_cleared
  cleared_size = choose leaves
    where
      choose : (t : Bool) → length (if t then put b SCR (without 0 (word b SCR)) else b) ≡ BLOCK_SIZE
      choose true = length-put b SCR (without 0 (word b SCR)) ∙ size
      choose false = size

  -- SCR has NS as the rule says, and no other word changes
  pub cleared_scr : SCR_NS (word (ns_cleared b to) SCR) ≡ ns_after (mode_field (word b CPSR)) to (SCR_NS (word b SCR))
  unfolding ns_cleared
  cleared_scr = choose leaves
    where
      fits : without 0 (word b SCR) < 2 ^ 32
      fits = let l = spelt_fits b (4 * SCR) by in omega arith

      choose : (t : Bool) → SCR_NS (word (if t then put b SCR (without 0 (word b SCR)) else b) SCR) ≡ (SCR_NS (word b SCR) && not t)
      choose true =
          ap SCR_NS (word-put_same b SCR (without 0 (word b SCR)) (omega arith) fits) ∙ cleared_bit (word b SCR) true
      choose false = cleared_bit (word b SCR) false

  pub cleared_other : (q : ℕ) → (SCR ≡ q → ⊥) → word (ns_cleared b to) q ≡ word b q
  unfolding ns_cleared
  cleared_other q n = choose leaves
    where
      choose : (t : Bool) → word (if t then put b SCR (without 0 (word b SCR)) else b) q ≡ word b q
      choose true = word-put_other b SCR (without 0 (word b SCR)) q n
      choose false = refl

  -- ---- what an entry leaves, in the words of document 01 ("Entry"), for any mode that an exception can be taken to

  module _ (offset link : ℕ) (tgt : is_target to ≡ true) where
    abbrev c : List ℕ
    c = ns_cleared b to

    abbrev l : List ℕ
    l = entered b to offset link

    is_written : l ≡ written c (word b CPSR) to offset link
    unfolding entered
    is_written = refl

    at : (p : ℕ) → word l p ≡ word (written c (word b CPSR) to offset link) p
    at p = ap (λ (x : List ℕ). word x p) is_written

    -- the target's SPSR takes the old CPSR word: an entry that sets the mode and leaves the SPSR stale is none
    pub saved_word_lem : word l (spsr_place to) ≡ word b CPSR
    saved_word_lem = at (spsr_place to) ∙ written_saved c (word b CPSR) to offset link tgt cleared_size (spelt_fits b (4 * CPSR) by)

    pub return_word : link < 2 ^ 32 → word l (lr_place to) ≡ link
    return_word h = at (lr_place to) ∙ written-link c (word b CPSR) to offset link tgt cleared_size h

    pub vector-word : word l PC ≡ vector (vector_base c to (word c (control_place c to))) offset
    vector-word = at PC ∙ written_pc c (word b CPSR) to offset link tgt cleared_size

    -- mode, masks, T, E, IT, IL and the flags: all of the new CPSR word
    pub cpsr_word : word l CPSR ≡ cpsr_after (word b CPSR) (word c SCR) (word c (control_place c to)) to
    cpsr_word = at CPSR ∙ written-cpsr c (word b CPSR) to offset link tgt cleared_size

    pub mode_entered : mode_field (word l CPSR) ≡ to
    mode_entered =
        ap mode_field cpsr_word ∙ after_mode (word b CPSR) (word c SCR) (word c (control_place c to)) to ∙ its_number to tgt

    -- SCR is touched only by the clearing of NS
    pub scr_word : word l SCR ≡ word c SCR
    scr_word =
        let s = spsr_low to tgt in
        let r = lr_low to tgt in
        at SCR
        ∙ written_other c (word b CPSR) to offset link tgt cleared_size SCR (λ e. omega arith) (λ e. omega arith) (λ e. omega arith)
        (λ e. omega arith)

    -- no other word changes
    pub other_word : (q : ℕ) → (spsr_place to ≡ q → ⊥) → (lr_place to ≡ q → ⊥) → (CPSR ≡ q → ⊥)
        → (PC ≡ q → ⊥) → (SCR ≡ q → ⊥) → word l q ≡ word b q
    other_word q s r p v n =
        at q ∙ written_other c (word b CPSR) to offset link tgt cleared_size q s r p v ∙ cleared_other q n

    -- and the block is good, where the target may stand
    pub entered_good : Good (word b CPSR) (word b SCR) (word b HCR)
        → may_stand (mode_field (word b CPSR)) to (SCR_NS (word b SCR)) (HCR_TGE (word b HCR)) ≡ true → fault l ≡ DONE
    unfolding fault
    entered_good g h =
        let s = spsr_low to tgt in
        let r = lr_low to tgt in
        let ec = ap SCR_NS scr_word ∙ cleared_scr in
        let eh : word l HCR ≡ word b HCR =
        other_word HCR (λ e. omega arith) (λ e. omega arith) (λ e. omega arith) (λ e. omega arith) (λ e. omega arith) in
        let clear = ap (bits 24 21) cpsr_word ∙ after_clear (word b CPSR) (word c SCR) (word c (control_place c to)) to in
        let m = mode_field (word b CPSR) in
        let k = and_left (known to) (stands to (ns_after m to (SCR_NS (word b SCR))) (HCR_TGE (word b HCR))) h in
        let t = and_right (known to) (stands to (ns_after m to (SCR_NS (word b SCR))) (HCR_TGE (word b HCR))) h in
        good_by_parts (word l CPSR) (word l SCR) (word l HCR) (rw mode_entered k) (eq-eqb _ 0 clear)
        (rw (mode_entered, ec, eh) t)
