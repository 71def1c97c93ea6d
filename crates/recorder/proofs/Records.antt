-- The records as they are written, word by word.
use mathlib.Core.Path.{◌≡◌, refl, sym, ap, ◌∙◌}
use mathlib.Core.List.{List, [], ◌++◌, append_assoc}
use Prim.Native.Nat.{ℕ, ◌+◌, ◌-◌, ◌*◌, ◌≤◌}
use native.Mathlib.Omega.{arith}
use lib.ListN.{length, take, drop, length-append, length-drop}
use lib.Seq.{drop-drop, drop_at, take_at, take_all, take-add, take-length, length-take-le}
use Rattle.std.specs.List.{copy_within}
use Rattle.std.proofs.lemmas.List.{take-take, take-append-le, drop-take}
use Rattle.std.proofs.lemmas.List.Edits.{take-paste, drop-paste}
use Rattle.words.specs.Word.{le32, put}
use Rattle.rules.specs.declared.event.Event.{Event}
use Rattle.rules.specs.declared.verdict.Answer.{Answer}
use Rattle.rules.specs.Known.{direct}
use Rattle.rules.specs.Step.{ANSWER_SIZE, answer_bytes, answer, after}
use Rattle.records.specs.Layout.{new_layout, start_size, step_size, end_size, end_kind, number_at, block_after_at}
use Rattle.records.specs.Published.{head, event_bytes, start_record, step_showing, step_record, end_record}
use Rattle.records.proofs.Lawfuls.{lawful_new}
use Rattle.records.proofs.Records.{length_step}
use Rattle.machine.proofs.Laws.{length_after}
use Rattle.recorder.specs.Recorded.{written_at, block_before}
use Rattle.recorder.proofs.Writing.{put_behind, over_part, written_same, write_middle}

-- a head is one word: the kind is its upper half
abbrev head_word : ℕ → ℕ → ℕ
head_word size kind = size + 65536 * kind

-- ---- words from the front on

-- two of them, and what is left of p
two : (p : List ℕ) (v w : ℕ) → 8 ≤ length p → put (put p 0 v) 1 w ≡ le32 v ++ (le32 w ++ drop 8 p)
two p v w l =
    let one : put p 0 v ≡ le32 v ++ drop 4 p = put_behind [] p 0 v refl (omega (arith, l)) in
    ap (λ (q : List ℕ). put q 1 w) one
    ∙ put_behind (le32 v) (drop 4 p) 1 w refl (omega (arith, l, length-drop 4 p))
    ∙ ap (λ (q : List ℕ). le32 v ++ (le32 w ++ q)) (drop-drop 4 4 p)

-- two more behind the words f, of which there are n
more : (f p : List ℕ) (n v w : ℕ) → length f ≡ 4 * n → 8 ≤ length p
    → put (put (f ++ p) n v) (n + 1) w ≡ f ++ (le32 v ++ (le32 w ++ drop 8 p))
more f p n v w k l =
    let q = drop 4 p in
    let long : length (f ++ le32 v) ≡ 4 * (n + 1) = omega (arith, k, length-append f (le32 v)) in
    ap (λ (r : List ℕ). put r (n + 1) w) (put_behind f p n v k (omega (arith, l)) ∙ sym (append_assoc f (le32 v) q))
    ∙ put_behind (f ++ le32 v) q (n + 1) w long (omega (arith, l, length-drop 4 p))
    ∙ ap (λ (r : List ℕ). f ++ le32 v ++ (le32 w ++ r)) (drop-drop 4 4 p)
    ∙ append_assoc f (le32 v) (le32 w ++ drop 8 p)

-- ---- an End

pub end_written : (p : List ℕ) (n : ℕ) → end_size ≤ length p → {q r : List ℕ}
    → q ≡ put p 0 (head_word end_size end_kind)
    → r ≡ put q 1 n
    → r ≡ end_record n ++ drop end_size p
unfolding end_record
end_written p n l e₀ e₁ =
    e₁ ∙ ap (λ (q : List ℕ). put q 1 n) e₀ ∙ two p (head_word end_size end_kind) n l

-- ---- what a Step says before its answer

-- its head and its event
abbrev named : Event → List ℕ
named e = head (step_size new_layout) new_layout.step_kind ++ event_bytes e

pub event_written : (p : List ℕ) (e : Event) → number_at ≤ length p → {q₀ q₁ q₂ q₃ : List ℕ}
    → q₀ ≡ put p 0 (head_word (step_size new_layout) new_layout.step_kind)
    → q₁ ≡ put q₀ 1 e.code
    → q₂ ≡ put q₁ 2 e.a
    → q₃ ≡ put q₂ 3 e.b
    → q₃ ≡ named e ++ drop number_at p
event_written p e l e₀ e₁ e₂ e₃ =
    let h = head_word (step_size new_layout) new_layout.step_kind in
    let two_words = le32 h ++ le32 e.code in
    let one = e₁ ∙ ap (λ (q : List ℕ). put q 1 e.code) e₀ ∙ two p h e.code (omega (arith, l)) in
    e₃ ∙ ap (λ (q : List ℕ). put q 3 e.b) (e₂ ∙ ap (λ (q : List ℕ). put q 2 e.a) one)
    ∙ more two_words (drop 8 p) 2 e.a e.b refl (omega (arith, l, length-drop 8 p))
    ∙ ap (λ (q : List ℕ). named e ++ q) (drop-drop 8 8 p)

-- ---- a Start

pub start_written : (p b : List ℕ) (n : ℕ) → length b ≡ new_layout.size → start_size new_layout ≤ length p → {q r c : List ℕ}
    → q ≡ put p 0 (head_word (start_size new_layout) new_layout.start_kind)
    → r ≡ put q 1 n
    → c ≡ take (length b) b ++ drop (length b) (take (length r - 8) (drop 8 r))
    → take 8 r ++ (c ++ drop (length r - 8) (drop 8 r)) ≡ start_record new_layout n b ++ drop (start_size new_layout) p
unfolding start_record
start_written p b n k l {q} {r} {c} e₀ e₁ e₂ =
    let h = head_word (start_size new_layout) new_layout.start_kind in
    let is : r ≡ le32 h ++ (le32 n ++ drop 8 p) =
    e₁ ∙ ap (λ (q : List ℕ). put q 1 n) e₀ ∙ two p h n (omega (arith, l)) in
    let long : length r ≡ length p = ap length is ∙ omega (arith, l, length-drop 8 p) in
    let block = e₂ ∙ ap (λ (d : List ℕ). d ++ drop (length b) (take (length r - 8) (drop 8 r))) (take-length b) in
    over_part r b c 8 (length b) refl (omega (arith, long, k, l)) block
    ∙ (λ i. take 8 (is i) ++ (b ++ drop (8 + k i) (is i)))
    ∙ ap (λ (d : List ℕ). le32 h ++ (le32 n ++ (b ++ d))) (drop-drop new_layout.size 8 p)

-- ---- a Step, behind the block that it goes from

-- where the block after it begins there, and the word of its answer
abbrev after_at : ℕ
after_at = new_layout.size + block_after_at

abbrev number_word : ℕ
number_word = 49

-- the block in front, copied to where the block after goes in two parts: its first 128 bytes, and behind them the other 52
pub copied_in_two : (p : List ℕ) → new_layout.size + step_size new_layout ≤ length p → {q r : List ℕ}
    → q ≡ copy_within p 0 128 after_at
    → r ≡ copy_within q 128 new_layout.size (after_at + 128)
    → r ≡ copy_within p 0 new_layout.size after_at
copied_in_two p l {q} {r} e₀ e₁ =
    let size = new_layout.size in
    let long : length (take after_at p) ≡ after_at = length-take-le after_at p (omega (arith, l)) in
    let front : take (after_at + 128) q ≡ take after_at p ++ take 128 p =
    ap (take (after_at + 128)) e₀ ∙ take-paste p after_at p 128 (omega (arith, l)) (omega (arith, l)) in
    -- the first copy leaves the block
    let block : take size q ≡ take size p =
    sym (take-take size (after_at + 128) q (omega (arith)))
    ∙ ap (take size) front
    ∙ take-append-le size (take after_at p) (take 128 p) (omega (arith, long))
    ∙ take-take size after_at p (omega (arith)) in
    let second : take 52 (drop 128 q) ≡ take 52 (drop 128 p) =
    sym (drop-take 128 52 q) ∙ ap (drop 128) block ∙ drop-take 128 52 p in
    let rest : drop (after_at + size) q ≡ drop (after_at + size) p =
    sym (drop-drop 52 (after_at + 128) q)
    ∙ ap (λ (d : List ℕ). drop 52 (drop (after_at + 128) d)) e₀
    ∙ ap (drop 52) (drop-paste p after_at p 128 (omega (arith, l)) (omega (arith, l)))
    ∙ drop-drop 52 (after_at + 128) p in
    e₁
    ∙ (λ i. (front i ++ second i) ++ rest i)
    ∙ ap (λ (d : List ℕ). d ++ drop (after_at + size) p)
    (append_assoc (take after_at p) (take 128 p) (take 52 (drop 128 p))
    ∙ ap (λ (d : List ℕ). take after_at p ++ d) (sym (take-add 128 52 p)))

-- q is p with its block copied to where the block after goes. The event is put; the block is stepped where it was copied to, by the
-- event d, as which e is seen; and the two words of the answer are put.
pub step_written : (p : List ℕ) (e d : Event) (x : Answer) → d ≡ direct e → new_layout.size + step_size new_layout ≤ length p
    → {q t c u v : List ℕ}
    → let size = new_layout.size in
    let named_in = take size q ++ (t ++ drop (length q - size) (drop size q)) in
    let before = take size (drop after_at named_in) in
    let stepped = take after_at named_in ++ (c ++ drop size (drop after_at named_in)) in
    q ≡ copy_within p 0 size after_at
    → t ≡ named e ++ drop number_at (take (length q - size) (drop size q))
    → x ≡ answer before d
    → c ≡ after before d
    → u ≡ put stepped number_word x.number
    → v ≡ put u (number_word + 1) x.value
    → v ≡ written_at p size (step_record new_layout (take size p) e)
unfolding step_showing
step_written p e d x seen l {q} {t} {c} {u} {v} e₀ e₁ e₂ e₃ e₄ e₅ =
    let size = new_layout.size in
    let b = take size p in
    let rest = drop (size + step_size new_layout) p in
    let long : length b ≡ size = length-take-le size p (omega (arith, l)) in
    -- what stood in the record's place, up to the block
    let words = take number_at (drop size p) in
    let answer₀ = take ANSWER_SIZE (drop (size + number_at) p) in
    let words_long : length words ≡ number_at = length-take-le number_at (drop size p) (omega (arith, l, length-drop size p)) in
    let answer-long : length answer₀ ≡ ANSWER_SIZE =
    length-take-le ANSWER_SIZE (drop (size + number_at) p) (omega (arith, l, length-drop (size + number_at) p)) in
    let parted : take after_at p ≡ b ++ (words ++ answer₀) =
    take-add size block_after_at p
    ∙ ap (λ (d : List ℕ). b ++ d)
    (take-add number_at ANSWER_SIZE (drop size p) ∙ ap (λ (d : List ℕ). words ++ take ANSWER_SIZE d) (drop-drop number_at size p)) in
    -- the block stands twice
    let copied : q ≡ b ++ (words ++ (answer₀ ++ (b ++ rest))) =
    e₀
    ∙ append_assoc (take after_at p) b rest
    ∙ (λ i. parted i ++ (b ++ rest))
    ∙ append_assoc b (words ++ answer₀) (b ++ rest)
    ∙ ap (λ (d : List ℕ). b ++ d) (append_assoc words answer₀ (b ++ rest)) in
    -- the event is put
    let named_in = take size q ++ (t ++ drop (length q - size) (drop size q)) in
    let enough = ap length copied ∙ length-append b (words ++ (answer₀ ++ (b ++ rest))) in
    let front = b ++ (named e ++ answer₀) in
    let put_in : named_in ≡ front ++ (b ++ rest) =
    over_part q (named e) t size number_at refl
    (omega (arith, enough, long, words_long, length-append words (answer₀ ++ (b ++ rest)))) e₁
    ∙ ap (λ (d : List ℕ). written_at d size (named e)) copied
    ∙ write_middle b words (named e) (answer₀ ++ (b ++ rest)) size long words_long
    ∙ sym (append_assoc b (named e ++ answer₀) (b ++ rest)) in
    let front_long : length front ≡ after_at = omega (arith, long, answer-long, length-append b (named e ++ answer₀)) in
    let behind : drop after_at named_in ≡ b ++ rest = ap (drop after_at) put_in ∙ drop_at front (b ++ rest) after_at front_long in
    let before : take size (drop after_at named_in) ≡ b = ap (take size) behind ∙ take_at b rest size long in
    -- the block is stepped where it was copied to
    let x' = answer b (direct e) in
    let c' = after b (direct e) in
    let answered : x ≡ x' = e₂ ∙ (λ i. answer (before i) (seen i)) in
    let left : c ≡ c' = e₃ ∙ (λ i. after (before i) (seen i)) in
    let stepped = take after_at named_in ++ (c ++ drop size (drop after_at named_in)) in
    let head_of : take after_at named_in ≡ front =
    ap (take after_at) put_in ∙ take_at front (b ++ rest) after_at front_long in
    let tail_of : drop size (drop after_at named_in) ≡ rest = ap (drop size) behind ∙ drop_at b rest size long in
    let stepped-in : stepped ≡ (b ++ named e) ++ (answer₀ ++ (c' ++ rest)) =
    (λ i. head_of i ++ (left i ++ tail_of i))
    ∙ append_assoc b (named e ++ answer₀) (c' ++ rest)
    ∙ sym (append_assoc b (named e) (answer₀ ++ (c' ++ rest))) in
    -- and the answer is put
    let long' : length c' ≡ size = length_after b (direct e) ∙ long in
    let named-long : length (b ++ named e) ≡ 4 * number_word = omega (arith, long, length-append b (named e)) in
    e₅
    ∙ ap (λ (r : List ℕ). put r (number_word + 1) x.value) e₄
    ∙ (λ i. put (put (stepped-in i) number_word (answered i).number) (number_word + 1) (answered i).value)
    ∙ more (b ++ named e) (answer₀ ++ (c' ++ rest)) number_word x'.number x'.value named-long
    (omega (arith, answer-long, length-append answer₀ (c' ++ rest)))
    ∙ ap (λ (r : List ℕ). (b ++ named e) ++ (answer_bytes x' ++ r)) (drop_at answer₀ (c' ++ rest) ANSWER_SIZE answer-long)
    ∙ append_assoc b (named e) (answer_bytes x' ++ (c' ++ rest))
    ∙ ap (λ (n : ℕ). b ++ (step_record new_layout b e ++ drop (size + n) p))
    (sym (length_step new_layout lawful_new e x' c' long'))

-- the same in a buffer, at this place: the part that is lent begins with the block before
pub step_behind : (s : List ℕ) (place before : ℕ) (e : Event) → place ≡ before + new_layout.size
    → place + step_size new_layout ≤ length s
    → {c : List ℕ}
    → let part = take (length s - before) (drop before s) in
    c ≡ written_at part new_layout.size (step_record new_layout (take new_layout.size part) e)
    → take before s ++ (c ++ drop (length s - before) (drop before s))
    ≡ written_at s place (step_record new_layout (block_before new_layout place s) e)
step_behind s place before e k l {c} h =
    let size = new_layout.size in
    let b = take size (drop before s) in
    let part = take (length s - before) (drop before s) in
    let whole : part ≡ drop before s = take_all (length s - before) (drop before s) (omega (arith, length-drop before s)) in
    let long : length b ≡ size = length-take-le size (drop before s) (omega (arith, k, l, length-drop before s)) in
    let r = step_record new_layout b e in
    let long' : length r ≡ step_size new_layout =
    length_step new_layout lawful_new e (answer b (direct e)) (after b (direct e)) (length_after b (direct e) ∙ long) in
    let written : c ≡ b ++ r ++ drop (size + length r) part =
    h
    ∙ (λ i. take size (whole i) ++ (step_record new_layout (take size (whole i)) e
    ++ drop (size + length (step_record new_layout (take size (whole i)) e)) part))
    ∙ sym (append_assoc b r (drop (size + length r) part)) in
    let from : before ≡ place - size = omega (arith, k) in
    over_part s (b ++ r) c before (size + length r) (omega (arith, length-append b r, long)) (omega (arith, k, l, long')) written
    ∙ written_same s r before size (omega (arith, k, l))
    ∙ (λ i. written_at s (sym k i) (step_record new_layout (take size (drop (from i) s)) e))
