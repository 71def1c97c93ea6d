-- The masking table (document 01, "The interrupt check"; Tables G1-16 to G1-18 of Arm's source 003): is the PSTATE mask
-- bit obeyed? It is held as the paper's seven rows.
use Rattle.std.specs.Prelude.{Bool, true, false, not, ◌&&◌, List, [], ◌∷◌, if◌then◌else◌}

-- the first column: the states that a row covers
pub data Who : Type 0 where
  Secure : Who
  NonSecure : Who
  NonSecureNotHyp : Who
  Hyp : Who

-- an entry of the columns M, R and W
pub data Entry : Type 0 where
  any : Entry
  is0 : Entry
  is1 : Entry

pub record Row : Type 0 where
  pub who : Who
  pub m : Entry
  pub r : Entry
  pub w : Entry
  pub obeyed : Bool

abbrev pub row : Who → Entry → Entry → Entry → Bool → Row
row who m r w obeyed = record { who = who; m = m; r = r; w = w; obeyed = obeyed }

-- State, M, R, W, and whether the mask bit is obeyed (true) or ignored (false)
abbrev pub table : List Row
table =
    row Secure any any any true
    ∷ row NonSecure is0 is0 any true
    ∷ row NonSecure is0 is1 is0 false
    ∷ row NonSecure is0 is1 is1 true
    ∷ row NonSecureNotHyp is1 any any false
    ∷ row Hyp is1 is0 any true
    ∷ row Hyp is1 is1 any false
    ∷ []

abbrev pub covers : Who → Bool → Bool → Bool
covers Secure sec hyp = sec
covers NonSecure sec hyp = not sec
covers NonSecureNotHyp sec hyp = not sec && not hyp
covers Hyp sec hyp = not sec && hyp

abbrev pub fits : Entry → Bool → Bool
fits any t = true
fits is0 t = not t
fits is1 t = t

-- the row that fits
abbrev pub look : List Row → Bool → Bool → Bool → Bool → Bool → Bool
look [] sec hyp m r w = true
look (x ∷ xs) sec hyp m r w =
    if covers x.who sec hyp && (fits x.m m && (fits x.r r && fits x.w w)) then x.obeyed else
    look xs sec hyp m r w

unfoldable pub obeyed : Bool → Bool → Bool → Bool → Bool → Bool
obeyed sec hyp m r w = look table sec hyp m r w
