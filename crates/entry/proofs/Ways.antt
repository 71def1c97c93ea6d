-- `way` at each code, on each way through the tests of that event: what the definition says is what the code answers.
use Rattle.std.proofs.Common.{◌≡◌, ℕ, ◌^◌, ◌<◌, Bool, true, false, not, ◌&&◌, ◌||◌, refl, arith, if◌then◌else◌}
use borrow.Author.Tests.{not-true}
use Rattle.state.specs.Choice.{◌is◌}
use Rattle.state.specs.Field.{mode_field, CPSR_T, SCR_EA, SCR_SCD, SCR_HCE, HCR_TSC}
use Rattle.state.specs.Mode.{USER, SUPERVISOR, MONITOR, ABORT, HYP, UNDEFINED, el1, el1_modes}
use Rattle.state.specs.Number.{NOT_HERE, DISABLED}
use Rattle.state.specs.State.{secure, ns_el1}
use Rattle.state.proofs.Test.{and_left, and_right, at_one}
use Rattle.entry.specs.Code.{UNDEFINED_INSTRUCTION, SVC, SMC, HVC, PREFETCH_ABORT, DATA_ABORT, HYP_TRAP, MONITOR_TRAP}
use Rattle.entry.specs.Code.{external, stage2}
use Rattle.entry.specs.Parts.{narrow, general_to_hyp, abort_way}
use Rattle.entry.specs.Route.{wrap, offset_to, link_to, to_monitor, to_hyp, target, offset, link, not_here, disabled, way}
use Rattle.entry.specs.Offset as offsets
use Rattle.entry.specs.Way.{Barred, Enter}

-- nothing added to an address, or to a sum that has wrapped
pub wrap_none : (x : ℕ) → x < 2 ^ 32 → wrap x 0 ≡ x
wrap_none x h = omega arith

wrap_again : (x y : ℕ) → wrap (wrap x y) 0 ≡ wrap x y
wrap_again x y = omega arith

wrap_before : (x y : ℕ) → x < 2 ^ 32 → wrap (wrap x 0) y ≡ wrap x y
wrap_before x y h = omega arith

-- an EL1 mode is not Hyp
pub el1_no_hyp : (m : ℕ) → el1 m ≡ true → (m is HYP) ≡ false
unfolding el1
el1_no_hyp m h = not-true (m is HYP) (at_one el1_modes (λ n. not (n is HYP)) refl m h)

module _ (a cpsr scr hcr pc : ℕ) where
  pub smc_not_here : (mode_field cpsr is USER) ≡ true → Barred NOT_HERE ≡ way SMC a cpsr scr hcr pc
  unfolding way not_here disabled
  smc_not_here u = rw u

  pub hvc_not_here : (mode_field cpsr is USER || secure cpsr scr) ≡ true → Barred NOT_HERE ≡ way HVC a cpsr scr hcr pc
  unfolding way not_here disabled
  hvc_not_here u = rw u

  pub hyp_trap_not_here : (secure cpsr scr || mode_field cpsr is HYP) ≡ true → Barred NOT_HERE ≡ way HYP_TRAP a cpsr scr hcr pc
  unfolding way not_here disabled
  hyp_trap_not_here u = rw u

  pub monitor_trap_not_here : (mode_field cpsr is MONITOR) ≡ true → Barred NOT_HERE ≡ way MONITOR_TRAP a cpsr scr hcr pc
  unfolding way not_here disabled
  monitor_trap_not_here u = rw u

  pub smc_disabled : (mode_field cpsr is USER) ≡ false → (ns_el1 cpsr scr && HCR_TSC hcr) ≡ false → SCR_SCD scr ≡ true
      → Barred DISABLED ≡ way SMC a cpsr scr hcr pc
  unfolding way not_here disabled
  smc_disabled u t d = rw (u, t, d)

  pub hvc_disabled : (mode_field cpsr is USER || secure cpsr scr) ≡ false → SCR_HCE scr ≡ false
      → Barred DISABLED ≡ way HVC a cpsr scr hcr pc
  unfolding way not_here disabled
  hvc_disabled u h = rw (u, h)

module _ (a cpsr scr hcr pc : ℕ) (fits : pc < 2 ^ 32) where
  abbrev m : ℕ
  m = mode_field cpsr

  pub undefined_to_hyp : general_to_hyp cpsr scr hcr ≡ true
      → Enter HYP (offset_to HYP m offsets.UNDEFINED) pc ≡ way UNDEFINED_INSTRUCTION a cpsr scr hcr pc
  unfolding way not_here disabled target to_monitor to_hyp offset link
  undefined_to_hyp g = rw (g, wrap_none pc fits, wrap_none pc fits)

  pub undefined_to_own : general_to_hyp cpsr scr hcr ≡ false
      → Enter UNDEFINED offsets.UNDEFINED (wrap pc (narrow cpsr)) ≡ way UNDEFINED_INSTRUCTION a cpsr scr hcr pc
  unfolding way not_here disabled target to_monitor to_hyp offset link
  undefined_to_own g = rw (g, wrap_before pc (narrow cpsr) fits)

  pub svc_to_hyp : general_to_hyp cpsr scr hcr ≡ true
      → Enter HYP (offset_to HYP m offsets.CALL) (wrap pc (narrow cpsr)) ≡ way SVC a cpsr scr hcr pc
  unfolding way not_here disabled target to_monitor to_hyp offset link
  svc_to_hyp g = rw g (svc_link (CPSR_T cpsr) (offset_to HYP m offsets.CALL))
    where
      svc_link : (t : Bool) (o : ℕ)
          → Enter HYP o (wrap pc (if t then 2 else 4)) ≡ Enter HYP o (wrap (wrap pc (if true && t then 2 else 4)) 0)
      svc_link true o = rw (wrap_again pc 2)
      svc_link false o = rw (wrap_again pc 4)

  pub svc_to_own : general_to_hyp cpsr scr hcr ≡ false
      → Enter SUPERVISOR offsets.CALL (wrap pc (narrow cpsr)) ≡ way SVC a cpsr scr hcr pc
  unfolding way not_here disabled target to_monitor to_hyp offset link
  svc_to_own g = rw g (svc_link (CPSR_T cpsr))
    where
      svc_link : (t : Bool)
          → Enter SUPERVISOR offsets.CALL (wrap pc (if t then 2 else 4))
          ≡ Enter SUPERVISOR offsets.CALL (wrap (wrap pc (if true && t then 2 else 4)) 0)
      svc_link true = rw (wrap_again pc 2)
      svc_link false = rw (wrap_again pc 4)

  pub smc_trapped : (m is USER) ≡ false → (ns_el1 cpsr scr && HCR_TSC hcr) ≡ true
      → Enter HYP offsets.HYP_TRAP pc ≡ way SMC a cpsr scr hcr pc
  unfolding way not_here disabled target to_monitor to_hyp offset link
  smc_trapped u t =
      let h = el1_no_hyp m (and_right (not (secure cpsr scr)) (el1 m) (and_left (ns_el1 cpsr scr) (HCR_TSC hcr) t)) in
      rw (u, t, h, untrapped (SCR_SCD scr), wrap_none pc fits, wrap_none pc fits)
    where
      -- no SMC that is trapped is disabled
      untrapped : (d : Bool) → (d && false) ≡ false
      untrapped true = refl
      untrapped false = refl

  pub smc_taken : (m is USER) ≡ false → (ns_el1 cpsr scr && HCR_TSC hcr) ≡ false → SCR_SCD scr ≡ false
      → Enter MONITOR offsets.CALL (wrap pc 4) ≡ way SMC a cpsr scr hcr pc
  unfolding way not_here disabled target to_monitor to_hyp offset link
  smc_taken u t d = rw (u, t, d, wrap_again pc 4)

  pub hvc_taken : (m is USER || secure cpsr scr) ≡ false → SCR_HCE scr ≡ true
      → Enter HYP (offset_to HYP m offsets.CALL) (wrap pc 4) ≡ way HVC a cpsr scr hcr pc
  unfolding way not_here disabled target to_monitor to_hyp offset link
  hvc_taken u h = rw (u, h, wrap_again pc 4)

  pub hyp_trap_taken : (secure cpsr scr || m is HYP) ≡ false → Enter HYP offsets.HYP_TRAP pc ≡ way HYP_TRAP a cpsr scr hcr pc
  unfolding way not_here disabled target to_monitor to_hyp offset link
  hyp_trap_taken u = rw (u, either_offset (m is HYP), wrap_none pc fits, wrap_none pc fits)
    where
      either_offset : (h : Bool) → ◌≡◌ {A = ℕ} (if not h then offsets.HYP_TRAP else offsets.HYP_TRAP) offsets.HYP_TRAP
      either_offset true = refl
      either_offset false = refl

  pub monitor_trap_taken : (m is MONITOR) ≡ false
      → Enter MONITOR offsets.MONITOR_TRAP (wrap pc (narrow cpsr)) ≡ way MONITOR_TRAP a cpsr scr hcr pc
  unfolding way not_here disabled target to_monitor to_hyp offset link
  monitor_trap_taken u = rw (u, wrap_before pc (narrow cpsr) fits)

  -- the two aborts: by the tests, in the order of the rules
  aborts : (own more : ℕ) (n x s g : Bool)
      → (if n then Barred NOT_HERE else
      if x then Enter MONITOR own (wrap pc more) else
      if s || g then Enter HYP (offset_to HYP m own) pc else
      Enter ABORT own (wrap pc more))
      ≡ (if n then Barred NOT_HERE else
      Enter (if x || false then MONITOR else (if s || g then HYP else ABORT))
      (offset_to (if x || false then MONITOR else (if s || g then HYP else ABORT)) m own)
      (link_to (if x || false then MONITOR else (if s || g then HYP else ABORT)) (wrap pc 0) more))
  aborts own more true x s g = refl
  aborts own more false true s g = rw (wrap_before pc more fits)
  aborts own more false false true g = rw (wrap_none pc fits, wrap_none pc fits)
  aborts own more false false false true = rw (wrap_none pc fits, wrap_none pc fits)
  aborts own more false false false false = rw (wrap_before pc more fits)

  pub prefetch_abort : abort_way offsets.PREFETCH_ABORT 4 a cpsr scr hcr pc ≡ way PREFETCH_ABORT a cpsr scr hcr pc
  unfolding way not_here disabled target to_monitor to_hyp offset link abort_way
  prefetch_abort =
      aborts offsets.PREFETCH_ABORT 4 (stage2 a && (secure cpsr scr || m is HYP)) (external a && SCR_EA scr) (stage2 a)
      (general_to_hyp cpsr scr hcr)

  pub data_abort : abort_way offsets.DATA_ABORT 8 a cpsr scr hcr pc ≡ way DATA_ABORT a cpsr scr hcr pc
  unfolding way not_here disabled target to_monitor to_hyp offset link abort_way
  data_abort =
      aborts offsets.DATA_ABORT 8 (stage2 a && (secure cpsr scr || m is HYP)) (external a && SCR_EA scr) (stage2 a)
      (general_to_hyp cpsr scr hcr)
