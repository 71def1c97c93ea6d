-- Batches one after another, a refused event in the middle, and three wrong batches, each refuted by a list that antt computes.
use Rattle.std.specs.Prelude.{if◌then◌else◌}
use mathlib.Core.Path.{◌≡◌, refl, sym, ap, ◌∙◌}
use mathlib.Core.Bool.{Bool, true, false, ◌&&◌}
use mathlib.Core.List.{List, [], ◌∷◌, ◌++◌}
use Prim.Native.Nat.{ℕ}
use native.Mathlib.Omega.{arith}
use lib.Dec.{eqb}
use lib.ListN.{length, get_or, length-append}
use borrow.Author.Tests.{eq-eqb, eqb-true}
use Rattle.words.specs.Word.{spelt, put}
use Rattle.state.specs.Mode.{known, el1, guest, spsr_place, lr_place}
use Rattle.state.specs.Number.{DONE, BAD_SIZE}
use Rattle.state.specs.Place.{BLOCK_SIZE, CPSR, LR_mon}
use Rattle.state.specs.State.{good}
use Rattle.banked.specs.Cell.{cell}
use Rattle.banked.specs.Right.{denied, right}
use Rattle.rules.specs.declared.event.Event.{Event}
use Rattle.rules.specs.declared.verdict.Answer.{Answer}
use Rattle.rules.specs.Direct.{direct_answer, direct_after, direct_run, direct_answers}
use Rattle.rules.specs.Event.{BANKED_READ, NOTE, bad_event}
use Rattle.rules.specs.Known.{seen, direct}
use Rattle.rules.specs.Refusal.{refusal}
use Rattle.rules.specs.Step.{done_action, action, answer, after}
use Rattle.rules.specs.Run.{run_by, answers_by}
use Rattle.rules.specs.Verdict.{value, refused_with}
use Rattle.machine.proofs.Cases.{block}
use Rattle.machine.proofs.Theorems.{refused_leaves}
use Rattle.console.specs.Batch.{suits, Batched}
use Rattle.console.specs.Theorems.{Batcher, Meets, reversed, Reverses, Stops, on_the_first, UsesTheFirst}
use Rattle.console.specs.Theorems.{BatchTheorems}

-- ---- one list of events behind another

pub run_append : (es fs : List Event) (b : List ℕ) → direct_run b (es ++ fs) ≡ direct_run (direct_run b es) fs
unfolding run_by
run_append [] fs b = refl
run_append (e ∷ es) fs b = run_append es fs (direct_after b e)

pub answers-append : (es fs : List Event) (b : List ℕ)
    → direct_answers b (es ++ fs) ≡ direct_answers b es ++ direct_answers (direct_run b es) fs
unfolding run_by answers_by
answers-append [] fs b = refl
answers-append (e ∷ es) fs b = ap (λ (xs : List Answer). direct_answer b e ∷ xs) (answers-append es fs (direct_after b e))

-- ---- a batch that answers DONE

module _ {es : List Event} {room : List Answer} {b : List ℕ} {told : List Answer} {c : List ℕ} (h : Batched es room b DONE told c) where
  -- the lengths go together
  lengths : (length es ≡ length room) × (length b ≡ BLOCK_SIZE)
  lengths = go (eqb (length es) (length room)) refl (eqb (length b) BLOCK_SIZE) refl h.number
    where
      go : (t : Bool) → eqb (length es) (length room) ≡ t → (u : Bool) → eqb (length b) BLOCK_SIZE ≡ u
          → DONE ≡ (if t && u then DONE else BAD_SIZE)
          → (length es ≡ length room) × (length b ≡ BLOCK_SIZE)
      go true p true q e = (eqb-true (length es) (length room) p, eqb-true (length b) BLOCK_SIZE q)
      go true p false q e = absurd (omega arith)
      go false p u q e = absurd (omega arith)

  both : suits es room b ≡ true
  both = simp (eq-eqb (length es) (length room) lengths.0, eq-eqb (length b) BLOCK_SIZE lengths.1)

  told_is : told ≡ direct_answers b es
  told_is = h.answered ∙ ap (λ (t : Bool). if t then direct_answers b es else room) both

  left_is : c ≡ direct_run b es
  left_is = h.block ∙ ap (λ (t : Bool). if t then direct_run b es else b) both

one_after_another : (es fs : List Event) (room₁ room₂ told₁ told₂ : List Answer) (b c d : List ℕ)
    → Batched es room₁ b DONE told₁ c
    → Batched fs room₂ c DONE told₂ d
    → Batched (es ++ fs) (room₁ ++ room₂) b DONE (told₁ ++ told₂) d
one_after_another es fs room₁ room₂ told₁ told₂ b c d h k =
    let size : length (es ++ fs) ≡ length (room₁ ++ room₂) =
    omega (arith, length-append es fs, length-append room₁ room₂, (lengths h).0, (lengths k).0) in
    let both : suits (es ++ fs) (room₁ ++ room₂) b ≡ true =
    simp (eq-eqb (length (es ++ fs)) (length (room₁ ++ room₂)) size, eq-eqb (length b) BLOCK_SIZE (lengths h).1) in
    let told = (λ i. told_is h i ++ (told_is k ∙ ap (λ (x : List ℕ). direct_answers x fs) (left_is h)) i) ∙ sym (answers-append es fs b) in
    let left = left_is k ∙ ap (λ (x : List ℕ). direct_run x fs) (left_is h) ∙ sym (run_append es fs b) in
    record {
      number = ap (λ (t : Bool). if t then DONE else BAD_SIZE) (sym both);
      answered = told ∙ ap (λ (t : Bool). if t then direct_answers b (es ++ fs) else room₁ ++ room₂) (sym both);
      block = left ∙ ap (λ (t : Bool). if t then direct_run b (es ++ fs) else b) (sym both);
    }

-- ---- a refused event in the middle

module _ (es fs : List Event) (e : Event) (b : List ℕ) (n : refusal (direct_run b es) (direct e) ≡ DONE → ⊥) where
  refused_changes_nothing : direct_run b (es ++ (e ∷ fs)) ≡ direct_run b (es ++ fs)
  unfolding run_by
  refused_changes_nothing =
      run_append es (e ∷ fs) b
      ∙ ap (λ (c : List ℕ). direct_run c fs) (refused_leaves (direct_run b es) (direct e) n).1
      ∙ sym (run_append es fs b)

  refused_has_its_number : let c = direct_run b es in
      direct_answers b (es ++ (e ∷ fs)) ≡ direct_answers b es ++ (refused_with (refusal c (direct e)) ∷ direct_answers c fs)
  unfolding answers_by
  refused_has_its_number =
      let here = refused_leaves (direct_run b es) (direct e) n in
      answers-append es (e ∷ fs) b ∙ (λ i. direct_answers b es ++ (here.0 i ∷ direct_answers (here.1 i) fs))

-- ---- three wrong batches, on a block in Secure Supervisor mode

abbrev start : List ℕ
start = block ((CPSR, 0x13) ∷ [])

-- an event of no code; LR_mon gets a word; LR_mon is read
abbrev none : Event
none = record { code = 99; a = 0; b = 0 }

abbrev noted : Event
noted = record { code = NOTE; a = LR_mon; b = 5 }

abbrev reads : Event
reads = record { code = BANKED_READ; a = 28; b = 0 }

-- an answer of a list, by its place
abbrev number_at : List Answer → ℕ → ℕ
number_at xs i = (get_or xs i (record { number = 0; value = 0 })).number

abbrev value_at : List Answer → ℕ → ℕ
value_at xs i = (get_or xs i (record { number = 0; value = 0 })).value

abbrev blank : Answer
blank = record { number = 7; value = 7 }

-- what they answer, and what the wrong ones would
record Computed : Type 0 where
  size : length start ≡ BLOCK_SIZE
  refused : refusal start (direct none) ≡ 4
  first : number_at (direct_answers start (none ∷ noted ∷ [])) 0 ≡ 4
  second : number_at (direct_answers start (none ∷ noted ∷ [])) 1 ≡ 0
  turned : number_at (reversed (direct_answers start (none ∷ noted ∷ []))) 0 ≡ 0
  noted_then_read : value_at (direct_answers start (noted ∷ reads ∷ [])) 1 ≡ 5
  read_at_first : value_at (on_the_first start (noted ∷ reads ∷ [])) 1 ≡ 0

computed : Computed
unfolding seen spelt put known el1 guest spsr_place lr_place good cell denied right bad_event refusal done_action action answer after value
    run_by answers_by
computed =
    record {
      size = refl;
      refused = refl;
      first = refl;
      second = refl;
      turned = refl;
      noted_then_read = refl;
      read_at_first = refl;
    }

abbrev room : List Answer
room = blank ∷ blank ∷ []

module _ (f : Batcher) (m : Meets f) where
  not_reversing : Reverses f → ⊥
  not_reversing r =
      let same = sym (m (none ∷ noted ∷ []) room start refl computed.size)
      ∙ r (none ∷ noted ∷ []) room start refl computed.size in
      omega (arith, ap (λ (xs : List Answer). number_at xs 0) same, computed.first, computed.turned)

  not_stopping : Stops f → ⊥
  not_stopping r =
      let refused : (refusal start (direct none) ≡ DONE → ⊥) = λ z. omega (arith, computed.refused) in
      let same = sym (m (none ∷ noted ∷ []) room start refl computed.size)
      ∙ r none (noted ∷ []) blank (blank ∷ []) start refl computed.size refused in
      omega (arith, ap (λ (xs : List Answer). number_at xs 1) same, computed.second)

  not_on_the_first : UsesTheFirst f → ⊥
  not_on_the_first r =
      let same = sym (m (noted ∷ reads ∷ []) room start refl computed.size)
      ∙ r (noted ∷ reads ∷ []) room start refl computed.size in
      omega (arith, ap (λ (xs : List Answer). value_at xs 1) same, computed.noted_then_read, computed.read_at_first)

pub theorems : BatchTheorems
theorems =
    record {
      one_after_another = one_after_another;
      refused_changes_nothing = refused_changes_nothing;
      refused_has_its_number = refused_has_its_number;
      not_reversing = not_reversing;
      not_stopping = not_stopping;
      not_on_the_first = not_on_the_first;
    }
