-- Words put one after another into a buffer of just their size leave just their bytes: each goes behind those before it.
use mathlib.Core.Path.{◌≡◌, refl, ap, ◌∙◌}
use mathlib.Core.List.{List, [], ◌∷◌, ◌++◌, append_assoc}
use Prim.Native.Nat.{ℕ, ◌+◌, ◌*◌, ◌≤◌}
use native.Mathlib.Omega.{arith}
use lib.ListN.{length, drop, length-append, length-drop}
use lib.Seq.{sets-eq, take_at, drop-append-add}
use Rattle.words.specs.Word.{le32, put}

-- these words put from the place p on, and their bytes
abbrev pub put_all : List ℕ → ℕ → List ℕ → List ℕ
put_all b p [] = b
put_all b p (w ∷ ws) = put_all (put b p w) (p + 1) ws

abbrev pub bytes_of : List ℕ → List ℕ
bytes_of [] = []
bytes_of (w ∷ ws) = le32 w ++ bytes_of ws

-- a word put behind the bytes h
put_behind : (h t : List ℕ) (p w : ℕ) → length h ≡ 4 * p → 4 ≤ length t
    → put (h ++ t) p w ≡ (h ++ le32 w) ++ drop 4 t
unfolding put
put_behind h t p w e l =
    let at : 4 * p + 4 ≡ length h + 4 = omega arith in
    sets-eq (le32 w) (h ++ t) (4 * p) (omega (arith, length-append h t))
    ∙ (λ i. (take_at h t (4 * p) e i ++ le32 w) ++ drop (at i) (h ++ t))
    ∙ ap (λ (r : List ℕ). (h ++ le32 w) ++ r) (drop-append-add h t 4)

put_all_lem : (ws h t : List ℕ) (p : ℕ) → length h ≡ 4 * p → length t ≡ 4 * length ws
    → put_all (h ++ t) p ws ≡ h ++ bytes_of ws
put_all_lem [] h [] p e l = refl
put_all_lem [] h (x ∷ t) p e l = absurd (omega arith)
put_all_lem (w ∷ ws) h t p e l =
    ap (λ (b : List ℕ). put_all b (p + 1) ws) (put_behind h t p w e (omega arith))
    ∙ put_all_lem ws (h ++ le32 w) (drop 4 t) (p + 1) (omega (arith, length-append h (le32 w)))
    (omega (arith, length-drop 4 t))
    ∙ append_assoc h (le32 w) (bytes_of ws)

pub filled : (ws b : List ℕ) → length b ≡ 4 * length ws → put_all b 0 ws ≡ bytes_of ws
filled ws b l = put_all_lem ws [] b 0 refl l

pub filled_one : (b : List ℕ) (w : ℕ) → length b ≡ 4 → put b 0 w ≡ le32 w
filled_one b w l = filled (w ∷ []) b l
