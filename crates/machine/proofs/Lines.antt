-- A check with a virtual line is seen as an event of no code, which a good block refuses; any other is seen as it is.
use Rattle.std.specs.Prelude.{if◌then◌else◌}
use mathlib.Core.Path.{◌≡◌, refl, sym, ap, ◌∙◌}
use mathlib.Core.Bool.{Bool, true, false}
use mathlib.Core.List.{List}
use Prim.Native.Nat.{ℕ}
use lib.ListN.{length}
use borrow.Author.Tests.{eq-eqb, eqb-false}
use Rattle.state.specs.Number.{DONE, BAD_EVENT}
use Rattle.state.specs.Place.{BLOCK_SIZE}
use Rattle.state.specs.State.{fault}
use Rattle.rules.specs.Direct.{direct_answer, direct_after}
use Rattle.rules.specs.Event.{bad_event}
use Rattle.rules.specs.Known.{NO_CODE, virtual_lines, unknown_to_new, seen, direct}
use Rattle.rules.specs.Refusal.{refusal}
use Rattle.rules.specs.Verdict.{refused_with}
use Rattle.rules.specs.declared.event.Event.{Event}
use Rattle.rules.proofs.Deciding.{fault_clear}
use Rattle.machine.specs.Lines.{check_of, LineTheorems}
use Rattle.machine.proofs.Leaving.{refused_leaves}

-- an event of no code on a good block
no_event_lem : (b : List ℕ) (a w : ℕ) → length b ≡ BLOCK_SIZE → fault b ≡ DONE
    → refusal b (record { code = NO_CODE; a = a; b = w }) ≡ BAD_EVENT
unfolding refusal bad_event
no_event_lem b a w l g = let clear = fault_clear b g in rw (eq-eqb (length b) BLOCK_SIZE l, clear.0, clear.1) refl

as_none : (lines w : ℕ) → virtual_lines lines ≡ true → direct (check_of lines w) ≡ record { code = NO_CODE; a = lines; b = w }
unfolding seen
as_none lines w h = rw h refl

others_stay : (e : Event) → unknown_to_new e ≡ false → direct e ≡ e
unfolding seen
others_stay e h = rw h refl

seen_is_known : (e : Event) → unknown_to_new (direct e) ≡ false
unfolding seen
seen_is_known e = by (unknown_to_new e) refl
  where
    by : (t : Bool) → unknown_to_new e ≡ t
        → unknown_to_new (if t then record { code = NO_CODE; a = e.a; b = e.b } else e) ≡ false
    by true h = refl
    by false h = h

retired : (b : List ℕ) (lines w : ℕ) → length b ≡ BLOCK_SIZE → fault b ≡ DONE → virtual_lines lines ≡ true
    → (direct_answer b (check_of lines w) ≡ refused_with BAD_EVENT) × (direct_after b (check_of lines w) ≡ b)
retired b lines w l g h =
    let e : Event = record { code = NO_CODE; a = lines; b = w } in
    let number : refusal b e ≡ BAD_EVENT = no_event_lem b lines w l g in
    let leaves = refused_leaves b e (λ z. eqb-false BAD_EVENT DONE refl (sym number ∙ z)) in
    rw (as_none lines w h) (leaves.0 ∙ ap refused_with number, leaves.1)

pub theorems : LineTheorems
theorems = record { retired = retired; others_stay = others_stay; seen_is_known = seen_is_known }
