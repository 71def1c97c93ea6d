-- A batch, event by event: what is done and what is left make the whole. So the block after all events, and the list of their
-- answers, are those of single direct steps done in order.
use mathlib.Core.Path.{◌≡◌, sym, ap, ◌∙◌}
use mathlib.Core.List.{List, [], ◌∷◌, ◌++◌, append-nil}
use Prim.Native.Nat.{ℕ, suc, ◌+◌, ◌<◌, ◌≤◌}
use native.Mathlib.Omega.{arith}
use native.Mathlib.Numerals.{add-one}
use lib.ListN.{length, get_or, set, take, drop, length-set, drop_of_length-le}
use lib.Seq.{take_all, drop-cons, take-suc-set, append_snoc}
use borrow.Author.Tests.{eq-eqb}
use Rattle.state.specs.Number.{DONE}
use Rattle.state.specs.Place.{BLOCK_SIZE}
use Rattle.rules.specs.declared.event.Event.{Event}
use Rattle.rules.specs.declared.verdict.Answer.{Answer}
use Rattle.rules.specs.Direct.{direct_answer, direct_after, direct_run, direct_answers}
use Rattle.rules.specs.Known.{direct}
use Rattle.rules.specs.Run.{run_by, answers_by}
use Rattle.machine.proofs.Laws.{length_after}
use Rattle.console.specs.Batch.{Batched}

-- ---- the events passed

-- i events of es were done, from the block b₀ to the block b, and their answers stand in front of the list
pub record Reached (es : List Event) (b₀ : List ℕ) (room : List Answer) (b : List ℕ) (i : ℕ) : Type 0 where
  pub same : length room ≡ length es
  pub size : length b ≡ BLOCK_SIZE
  pub few : i ≤ length es
  pub block : direct_run b (drop i es) ≡ direct_run b₀ es
  pub answered : take i room ++ direct_answers b (drop i es) ≡ direct_answers b₀ es

module _ (es : List Event) (b₀ : List ℕ) (room : List Answer) (b : List ℕ) (i : ℕ) (h : Reached es b₀ room b i) where
  -- one event more: its answer is put at its place, and the block is the one after it
  next : (d : Event) (x : Answer) (c : List ℕ) → i < length es → x ≡ direct_answer b (get_or es i d) → c ≡ direct_after b (get_or es i d)
      → Reached es b₀ (set room i x) c (suc i)
  unfolding run_by answers_by
  next d x c l p q =
      let e = get_or es i d in
      let rest = drop (suc i) es in
      let now : drop i es ≡ e ∷ rest = drop-cons es i d l in
      let front : take (suc i) (set room i x) ≡ take i room ++ (direct_answer b e ∷ []) =
      take-suc-set room i x (omega (arith, h.same)) ∙ ap (λ (y : Answer). take i room ++ (y ∷ [])) p in
      record {
        same = length-set room i x ∙ h.same;
        size = ap length q ∙ length_after b (direct e) ∙ h.size;
        few = l;
        block = ap (λ (k : List ℕ). direct_run k rest) q ∙ sym (ap (direct_run b) now) ∙ h.block;
        answered = (λ j. front j ++ direct_answers (q j) rest)
            ∙ append_snoc (take i room) (direct_answer b e) (direct_answers (direct_after b e) rest)
            ∙ sym (ap (λ (fs : List Event). take i room ++ direct_answers b fs) now)
            ∙ h.answered;
      }

  pub reached_next : (d : Event) (x : Answer) (c : List ℕ) → i < length es → x ≡ direct_answer b (get_or es i d)
      → c ≡ direct_after b (get_or es i d)
      → Reached es b₀ (set room i x) c (i + 1)
  reached_next d x c l p q = rw (add-one i) (next d x c l p q)

  pub reached_all : (room₀ : List Answer) → length es ≡ length room₀ → length b₀ ≡ BLOCK_SIZE → length es ≤ i
      → Batched es room₀ b₀ DONE room b
  unfolding run_by answers_by
  reached_all room₀ same size l =
      let t = eq-eqb (length es) (length room₀) same in
      let u = eq-eqb (length b₀) BLOCK_SIZE size in
      let none : drop i es ≡ [] = drop_of_length-le es l in
      let left : b ≡ direct_run b₀ es = sym (ap (direct_run b) none) ∙ h.block in
      let told : room ≡ direct_answers b₀ es = sym (take_all i room (omega (arith, h.same)))
      ∙ sym (append-nil (take i room))
      ∙ sym (ap (λ (fs : List Event). take i room ++ direct_answers b fs) none)
      ∙ h.answered in
      record { number = simp (t, u); answered = simp (t, u) told; block = simp (t, u) left }
