-- Two guests that differ at SP_hyp, two blocks in Monitor that do, and two guests that differ at SP_usr: antt computes what they answer.
use mathlib.Core.Path.{◌≡◌, refl, sym}
use mathlib.Core.List.{List, [], ◌∷◌}
use Prim.Native.Nat.{ℕ}
use lib.ListN.{length}
use borrow.Author.Tests.{eqb-false}
use Rattle.words.specs.Word.{spelt, put}
use Rattle.words.proofs.Laws.{word-put_other}
use Rattle.state.specs.Mode.{SUPERVISOR, MONITOR, known, el1, is_target, spsr_place}
use Rattle.state.specs.Place.{BLOCK_SIZE, SP_usr, SP_hyp}
use Rattle.state.specs.State.{good, fault, fault_of}
use Rattle.entry.specs.Route as synchronous
use Rattle.banked.specs.Cell.{cell}
use Rattle.banked.specs.Right.{denied, own, reason, right}
use Rattle.returns.specs.Return.{wrong_a}
use Rattle.rules.specs.Event.{BANKED_READ, bad_event}
use Rattle.rules.specs.Refusal.{refusal}
use Rattle.rules.specs.Run.{run_by, answers_by}
use Rattle.rules.specs.Step.{done_action, action, answer, after}
use Rattle.rules.specs.Verdict.{value}
use Rattle.rules.specs.declared.event.Event.{Event}
use Rattle.machine.specs.Guest.{exempt, Guest, Example, MonitorLearns, PlaceTells}
use Rattle.machine.proofs.Cases.{block, with}
use Rattle.machine.proofs.Guest.{inside_alike, any_word_inside}

-- a word at SP_usr and nothing at SP_hyp, with NS 1; and another word, that one of the two gets
abbrev start : ℕ → List ℕ
start mode = block ((SP_usr, 0x1000) ∷ with 1 mode)

abbrev another : ℕ
another = 0x2000

-- a read of the register of A: SP_usr, SP_hyp
abbrev reads : ℕ → Event
reads a = record { code = BANKED_READ; a = a; b = 0 }

abbrev read_SP_usr : Event
read_SP_usr = reads 5

abbrev read_SP_hyp : Event
read_SP_hyp = reads 31

sized : (mode : ℕ) → length (start mode) ≡ BLOCK_SIZE
unfolding put
sized mode = refl

supervisor : Guest (start SUPERVISOR)
unfolding spelt put known el1 good fault_of fault
supervisor = record { good = refl; non_secure = refl; in_el1 = refl }

pub example : Example
unfolding spelt put known el1 is_target spsr_place good exempt wrong_a synchronous.not_here synchronous.disabled cell denied own reason
    right bad_event refusal done_action action answer after value run_by answers_by
example =
    record {
      place = SP_hyp;
      one = start SUPERVISOR;
      other = put (start SUPERVISOR) SP_hyp another;
      list = read_SP_usr ∷ [];
      read = 0x1000;
      guests = any_word_inside (start SUPERVISOR) SP_hyp another (sized SUPERVISOR) refl supervisor;
      inside = refl;
      differ = eqb-false 0 another refl;
      all_banked = (refl, tt);
      reads = refl;
      not_zero = eqb-false 0x1000 0 refl;
    }

pub monitor_learns : MonitorLearns
unfolding spelt put known el1 is_target spsr_place good fault_of fault exempt wrong_a synchronous.not_here synchronous.disabled cell denied
    own reason right bad_event refusal done_action action answer after value
monitor_learns =
    record {
      one = start MONITOR;
      other = put (start MONITOR) SP_hyp another;
      event = read_SP_hyp;
      one_good = refl;
      other_good = refl;
      one_mode = refl;
      other_mode = refl;
      alike = inside_alike (start MONITOR) SP_hyp another (sized MONITOR) refl;
      apart = record { banked = refl; first_done = refl; second_done = refl; values_differ = eqb-false 0 another refl };
    }

pub place_tells : PlaceTells
unfolding spelt put known el1 is_target spsr_place good fault_of fault exempt wrong_a synchronous.not_here synchronous.disabled cell denied
    own reason right bad_event refusal done_action action answer after value
place_tells =
    record {
      place = SP_usr;
      one = start SUPERVISOR;
      other = put (start SUPERVISOR) SP_usr another;
      event = read_SP_usr;
      not_exempt = refl;
      one_guest = supervisor;
      other_guest = record { good = refl; non_secure = refl; in_el1 = refl };
      same_mode = refl;
      elsewhere = λ q n. sym (word-put_other (start SUPERVISOR) SP_usr another q n);
      apart = record { banked = refl; first_done = refl; second_done = refl; values_differ = eqb-false 0x1000 another refl };
    }
