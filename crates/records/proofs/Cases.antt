-- Case l of document 01 in both layouts, and a count that no trace has, computed from the definitions.
use mathlib.Core.Path.{◌≡◌, refl}
use mathlib.Core.List.{List, [], ◌∷◌, ◌++◌}
use Prim.Native.Nat.{ℕ}
use lib.ListN.{replicate, take}
use Rattle.words.specs.Word.{half, spelt}
use Rattle.records.specs.Layout.{old_layout, new_layout, is_old}
use Rattle.records.specs.Either.{report_of}
use Rattle.records.specs.Report.{report, report_from, start_number, end_number, end_report, head_number}

-- the shortest trace, 192 bytes
pub shortest : List ℕ
shortest = 0xB8 ∷ 0 ∷ 1 ∷ 0 ∷ replicate 180 0 ++ (8 ∷ 0 ∷ 3 ∷ 0 ∷ 0 ∷ 0 ∷ 0 ∷ 0 ∷ [])

-- accepted whole; without its last byte and empty it is short
pub case_l : (report old_layout shortest ≡ record { number = 0; place = 192; steps = 0 })
    × (report old_layout (take 191 shortest) ≡ record { number = 8; place = 184; steps = 0 })
    × (report old_layout [] ≡ record { number = 8; place = 0; steps = 0 })
unfolding shortest report report_from start_number end_number end_report head_number half spelt
case_l = (refl, refl, refl)

-- the same of the new layout, 196 bytes
pub shortest_new : List ℕ
shortest_new = 0xBC ∷ 0 ∷ 4 ∷ 0 ∷ replicate 184 0 ++ (8 ∷ 0 ∷ 3 ∷ 0 ∷ 0 ∷ 0 ∷ 0 ∷ 0 ∷ [])

pub case_l_new : (report new_layout shortest_new ≡ record { number = 0; place = 196; steps = 0 })
    × (report new_layout (take 195 shortest_new) ≡ record { number = 8; place = 188; steps = 0 })
    × (report new_layout [] ≡ record { number = 8; place = 0; steps = 0 })
unfolding shortest_new report report_from start_number end_number end_report head_number half spelt
case_l_new = (refl, refl, refl)

-- a count of 2^32 - 1 is refused at once
pub case_count : report old_layout (0xB8 ∷ 0 ∷ 1 ∷ 0 ∷ 255 ∷ 255 ∷ 255 ∷ 255 ∷ replicate 176 0)
    ≡ record { number = 10; place = 0; steps = 0 }
unfolding report report_from start_number head_number half spelt
case_count = refl

-- the length of one layout with the kind of the other: (188, kind 1) and (184, kind 4)
pub case_crossed : (report_of (0xBC ∷ 0 ∷ 1 ∷ 0 ∷ replicate 184 0) ≡ record { number = 9; place = 0; steps = 0 })
    × (report_of (0xB8 ∷ 0 ∷ 4 ∷ 0 ∷ replicate 180 0) ≡ record { number = 9; place = 0; steps = 0 })
unfolding is_old report report_from start_number head_number half spelt
case_crossed = (refl, refl)
