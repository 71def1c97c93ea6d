-- What a return leaves, and that a return behind an entry restores what the entry saved: the entry saves CPSR and the link where
-- the return looks for them, and the mode that was left may be returned to.
use Rattle.std.specs.Prelude.{if◌then◌else◌}
use mathlib.Core.Path.{◌≡◌, refl, sym, ap, ◌∙◌}
use mathlib.Core.Bool.{Bool, true, false, not, ◌&&◌}
use mathlib.Core.List.{List, [], ◌∷◌}
use mathlib.Core.Logic.{◌↔◌}
use Prim.Native.Nat.{ℕ, ◌*◌, ◌<◌, ◌≤◌, ◌^◌}
use native.Mathlib.Omega.{arith}
use borrow.Author.Tests.{eqb-true, eqb-false, not-true, not-false}
use lib.Dec.{lit<}
use lib.ListN.{length}
use Rattle.words.specs.Word.{word, put, Bytes}
use Rattle.words.proofs.Laws.{length-put, word-put_same, word-put_other, spelt_fits}
use Rattle.state.specs.Choice.{◌is◌, ◌among◌}
use Rattle.state.specs.Field.{mode_field, CPSR_T, SCR_NS, HCR_TGE}
use Rattle.state.specs.Mode.{MONITOR, HYP, is_target, spsr_place, lr_place, known, el1}
use Rattle.state.specs.Number.{DONE}
use Rattle.state.specs.Place.{BLOCK_SIZE, CPSR, PC, SCR, HCR, HDCR}
use Rattle.state.specs.State.{secure, fault}
use Rattle.state.proofs.Good.{Good}
use Rattle.state.proofs.Test.{at_one}
use Rattle.entry.specs.Code.{UNDEFINED_INSTRUCTION, SVC, PREFETCH_ABORT, DATA_ABORT, MONITOR_TRAP, is_synchronous, is_general}
use Rattle.entry.specs.Route.{wrap, ahead, addend}
use Rattle.entry.specs.Route as synchronous
use Rattle.entry.proofs.Debug.{here_routed}
use Rattle.entry.proofs.Keeps.{ns_after, every_event, of_target, cleared_bit}
use Rattle.entry.proofs.Targets.{chosen, target_is_one}
use Rattle.interrupts.specs.declared.exception.Exception.TheVariants.{Synchronous}
use Rattle.returns.specs.Illegal.{illegal}
use Rattle.returns.specs.Level.{level}
use Rattle.returns.specs.Return.{taken_off, wrong_a, bad_saved, is_illegal, mode_kept, word_after, less, aligned, address_after}
use Rattle.returns.specs.Return.{saved_word, has_saved, link_word, cpsr_returned, pc_returned}
use Rattle.returns.proofs.After.{kept_mode, kept_il, kept_high, kept_clear, kept_low, word_fits, level_falls, stays_non_secure}
use Rattle.returns.proofs.After.{saved_exactly, address_fits}
use Rattle.rules.specs.Event.{RETURN}
use Rattle.rules.specs.Refusal.{refusal}
use Rattle.rules.specs.Run.{run_by}
use Rattle.rules.specs.Step.{Refuse, Take, Return, routed_in, done_action, action, block_after, after}
use Rattle.rules.specs.declared.event.Event.{Event}
use Rattle.rules.proofs.Deciding.{at_return}
use Rattle.rules.proofs.Rows.{passed}
use Rattle.machine.specs.Claims.{target, offset, link}
use Rattle.machine.specs.RoundTrip.{KeepsMode, own_subtraction, subtraction, back, preferred_return, RoundTrip}
use Rattle.machine.proofs.Entering as entering
use Rattle.machine.proofs.Goodness.{goods, good_stays}
use Rattle.machine.proofs.Laws.{length_after, bytes_after}
use Rattle.machine.proofs.Leaving as leaving

-- ---- what a return leaves

module _ (b : List ℕ) (e : Event) (bytes : Bytes b) (size : length b ≡ BLOCK_SIZE) (a : ℕ)
    (does : action b e ≡ Return (cpsr_returned b) (pc_returned b a)) where
  is_left : after b e ≡ put (put b CPSR (cpsr_returned b)) PC (pc_returned b a)
  unfolding after
  is_left = ap (block_after b) does

  at : (q : ℕ) → word (after b e) q ≡ word (put (put b CPSR (cpsr_returned b)) PC (pc_returned b a)) q
  at q = ap (λ (l : List ℕ). word l q) is_left

  pub cpsr : word (after b e) CPSR ≡ cpsr_returned b
  cpsr =
      let fits = spelt_fits b (4 * spsr_place (mode_field (word b CPSR))) bytes in
      at CPSR ∙ word-put_other (put b CPSR (cpsr_returned b)) PC (pc_returned b a) CPSR (eqb-false PC CPSR refl)
      ∙ word-put_same b CPSR (cpsr_returned b) (omega arith) (word_fits (word b CPSR) (word b SCR) (word b HCR) (saved_word b) fits)

  pub pc : word (after b e) PC ≡ pc_returned b a
  pc =
      let long = length-put b CPSR (cpsr_returned b) in
      at PC
      ∙ word-put_same (put b CPSR (cpsr_returned b)) PC (pc_returned b a) (omega arith) (address_fits (saved_word b) (link_word b) a)

  pub others : (q : ℕ) → (CPSR ≡ q → ⊥) → (PC ≡ q → ⊥) → word (after b e) q ≡ word b q
  others q c p =
      at q ∙ word-put_other (put b CPSR (cpsr_returned b)) PC (pc_returned b a) q p ∙ word-put_other b CPSR (cpsr_returned b) q c

-- ---- a return that no row refuses

module _ (b : List ℕ) (e : Event) (bytes : Bytes b) (done : refusal b e ≡ DONE) (c : e.code ≡ RETURN) where
  size : length b ≡ BLOCK_SIZE
  size = eqb-true (length b) BLOCK_SIZE (not-false (length b is BLOCK_SIZE) (passed b e done).sized)

  good : Good (word b CPSR) (word b SCR) (word b HCR)
  good = goods b (good_stays b e bytes done).0

  does : action b e ≡ Return (cpsr_returned b) (pc_returned b e.a)
  does = leaving.returns b e done c

  pub done_cpsr : word (after b e) CPSR ≡ cpsr_returned b
  done_cpsr = cpsr b e bytes size e.a does

  pub done_pc : word (after b e) PC ≡ pc_returned b e.a
  done_pc = pc b e bytes size e.a does

  pub done_others : (q : ℕ) → (CPSR ≡ q → ⊥) → (PC ≡ q → ⊥) → word (after b e) q ≡ word b q
  done_others = others b e bytes size e.a does

  -- CPSR is the saved word exactly where no row of the list applies
  pub legal_exactly : (word (after b e) CPSR ≡ saved_word b)
      ↔ (is_illegal (word b CPSR) (word b SCR) (word b HCR) (saved_word b) ≡ false)
  legal_exactly =
      let exactly = saved_exactly (word b CPSR) (word b SCR) (word b HCR) (saved_word b) good in
      (λ h. exactly.0 (sym done_cpsr ∙ h), λ h. done_cpsr ∙ exactly.1 h)

  -- where one does, the mode stays and IL becomes 1
  pub illegal_keeps : is_illegal (word b CPSR) (word b SCR) (word b HCR) (saved_word b) ≡ true
      → KeepsMode (word b CPSR) (saved_word b) (word (after b e) CPSR)
  unfolding word_after
  illegal_keeps h =
      let c = word b CPSR in
      let s = saved_word b in
      let kept : word (after b e) CPSR ≡ mode_kept c s = done_cpsr ∙ rw h in
      rw kept
      (record { mode = kept_mode c s; il = kept_il c s; high = kept_high c s; clear = kept_clear c s; low = kept_low c s })

  -- the level never rises, and Non-secure state is not left
  abbrev ns : Bool
  ns = SCR_NS (word b SCR)

  pub never_rises : level (mode_field (word (after b e) CPSR)) (SCR_NS (word (after b e) SCR)) ≤ level (mode_field (word b CPSR)) ns
  never_rises =
      rw (done_cpsr, done_others SCR (eqb-false CPSR SCR refl) (eqb-false PC SCR refl))
      (level_falls (word b CPSR) (word b SCR) (word b HCR) (saved_word b))

  pub never_secure : secure (word b CPSR) (word b SCR) ≡ false → secure (word (after b e) CPSR) (word (after b e) SCR) ≡ false
  never_secure h =
      rw (done_cpsr, done_others SCR (eqb-false CPSR SCR refl) (eqb-false PC SCR refl))
      (stays_non_secure (word b CPSR) (word b SCR) (word b HCR) (saved_word b) h)

-- ---- the return behind an entry

-- "codes 1, 2, 5, 6" are synchronous
pub general_synchronous : (code : ℕ) → is_general code ≡ true → is_synchronous code ≡ true
general_synchronous code h = at_one (UNDEFINED_INSTRUCTION ∷ SVC ∷ PREFETCH_ABORT ∷ DATA_ABORT ∷ []) is_synchronous refl code h

-- where an event goes, a return may go back: tried at every mode, code and bit
abbrev may_go_back : ℕ → ℕ → Bool → Bool → Bool
may_go_back m to ns tge = not (illegal (level to (ns_after m to ns)) m (ns_after m to ns) tge)

tried : every_event may_go_back ≡ true
unfolding known el1 illegal level
tried = refl

-- what is taken off is what was added, and it may be: it is small, and one of the four
abbrev Off : ℕ → Type 0
Off n = (n < 9) × ((n among taken_off) ≡ true)

off_own : (code : ℕ) (t : Bool) → Off (own_subtraction code t)
off_own code t =
    chosen Off (code among (UNDEFINED_INSTRUCTION ∷ MONITOR_TRAP ∷ []))
    (chosen Off t (lit< tt, refl) (lit< tt, refl))
    (chosen Off (code is PREFETCH_ABORT) (lit< tt, refl) (chosen Off (code is DATA_ABORT) (lit< tt, refl) (lit< tt, refl)))

off_small : (code : ℕ) (t : Bool) (to : ℕ) → subtraction code t to < 9
off_small code t to = chosen (λ n. n < 9) (to is HYP) (lit< tt) (off_own code t).0

off_right : (code : ℕ) (t : Bool) (to cpsr : ℕ) → mode_field cpsr ≡ to → wrong_a cpsr (subtraction code t to) ≡ false
unfolding wrong_a
off_right code t to cpsr m = rw m (by (to is HYP))
  where
    by : (hyp : Bool)
        → (if hyp then not ((if hyp then 0 else own_subtraction code t) is 0) else
        not ((if hyp then 0 else own_subtraction code t) among taken_off))
        ≡ false
    by true = refl
    by false = ap not (off_own code t).1

back_to : (x y : ℕ) → x < 2 ^ 32 → y < 9 → less (wrap x y) y ≡ x
back_to x y l s = omega arith

module _ (b : List ℕ) (e : Event) (bytes : Bytes b) (done : refusal b e ≡ DONE) (y : is_synchronous e.code ≡ true) where
  abbrev to : ℕ
  to = target b e

  -- the block that the entry leaves, and what is known of it
  abbrev l : List ℕ
  l = after b e

  taken : action b e ≡ Take Synchronous to (offset b e) (link b e)
  taken = leaving.takes_as_routed b e done y

  stays : (fault b ≡ DONE) × (fault l ≡ DONE)
  stays = good_stays b e bytes done

  l_bytes : Bytes l
  l_bytes = bytes_after b e bytes

  l_size : length l ≡ BLOCK_SIZE
  l_size = length_after b e ∙ eqb-true (length b) BLOCK_SIZE (not-false (length b is BLOCK_SIZE) (passed b e done).sized)

  in_target : mode_field (word l CPSR) ≡ to
  in_target = entering.mode b e bytes Synchronous to (offset b e) (link b e) taken

  has : has_saved l ≡ true
  has = ap is_target in_target ∙ target_is_one e.code (routed_in b e.code e.a) (word b CPSR) (word b SCR) (word b HCR)

  saves : saved_word l ≡ word b CPSR
  saves = ap (λ m. word l (spsr_place m)) in_target ∙ entering.saves b e bytes Synchronous to (offset b e) (link b e) taken

  links : link_word l ≡ link b e
  links = ap (λ m. word l (lr_place m)) in_target ∙ entering.links b e bytes Synchronous to (offset b e) (link b e) taken

  clear : bad_saved (saved_word l) ≡ false
  clear = ap bad_saved saves ∙ ap not (goods b stays.0).clear

  -- NS and TGE there
  ns_there : SCR_NS (word l SCR) ≡ ns_after (mode_field (word b CPSR)) to (SCR_NS (word b SCR))
  ns_there =
      ap SCR_NS (entering.scr b e bytes Synchronous to (offset b e) (link b e) taken)
      ∙ cleared_bit (word b SCR) (mode_field (word b CPSR) is MONITOR && not (to is HYP))

  tge_there : HCR_TGE (word l HCR) ≡ HCR_TGE (word b HCR)
  tge_there = ap HCR_TGE (entering.hcr b e bytes Synchronous to (offset b e) (link b e) taken)

  -- the return is legal
  may : is_illegal (word l CPSR) (word l SCR) (word l HCR) (saved_word l) ≡ false
  may =
      let here : synchronous.not_here e.code e.a (word b CPSR) (word b SCR) ≡ false = rw y at (passed b e done).here in
      rw (saves, in_target, ns_there, tge_there)
      (not-true _
      (of_target may_go_back tried e.code (routed_in b e.code e.a) (word b CPSR) (word b SCR) (word b HCR) (goods b stays.0) y
      (here_routed e.code e.a (word b CPSR) (word b SCR) (word b HDCR) ∙ here)))

  -- and so it is done
  goes_back : action l (back b e) ≡ Return (cpsr_returned l) (pc_returned l (back b e).a)
  goes_back =
      let right = off_right e.code (CPSR_T (word b CPSR)) to (word l CPSR) in_target in
      sym (at_return l (back b e).a 0 l_size stays.1) ∙ rw (has, clear, right)

  back_done : refusal l (back b e) ≡ DONE
  unfolding action
  back_done = by (refusal l (back b e) is DONE) refl goes_back
    where
      by : (t : Bool) → (refusal l (back b e) is DONE) ≡ t
          → (if t then done_action l (back b e) else Refuse (refusal l (back b e))) ≡ Return (cpsr_returned l) (pc_returned l (back b e).a)
          → refusal l (back b e) ≡ DONE
      by true q h = eqb-true (refusal l (back b e)) DONE q
      by false q h = let z : ◌≡◌ {A = ℕ} 0 1 = cc in absurd (eqb-false 0 1 refl z)

  restored : cpsr_returned l ≡ word b CPSR
  unfolding word_after
  restored = rw may saves

  returned_to : pc_returned l (back b e).a ≡ aligned (word b CPSR) (preferred_return b e)
  unfolding address_after synchronous.link
  returned_to =
      rw (saves, links)
      (ap (aligned (word b CPSR))
      (back_to (preferred_return b e) (back b e).a (omega arith) (off_small e.code (CPSR_T (word b CPSR)) to)))

  pub round_trip : RoundTrip b e
  unfolding run_by
  round_trip = record {
    done = back_done;
    cpsr = cpsr l (back b e) l_bytes l_size (back b e).a goes_back ∙ restored;
    pc = pc l (back b e) l_bytes l_size (back b e).a goes_back ∙ returned_to;
  }
