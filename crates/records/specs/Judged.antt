-- What the judgement of a Step goes by and what it leaves: its number, and where the Step is right the block after it; and that of
-- many Steps, one behind the other.
use Rattle.std.specs.Prelude.{◌≡◌, Bool, true, false, List, ℕ, zero, suc, ◌*◌, ◌<◌, ◌≤◌, length, take, drop}
use Rattle.words.specs.Word.{spelt}
use Rattle.state.specs.Place.{BLOCK_SIZE, OLD_BLOCK_SIZE}
use Rattle.rules.specs.declared.verdict.Answer.{Answer}
use Rattle.records.specs.declared.run.Run as code
use Rattle.state.specs.Refusal.{number_of}
use Rattle.records.specs.Layout.{Layout, with_hdcr0, layout, step_size, number_at, value_at, block_after_at}
use Rattle.records.specs.Report.{ACCEPTED, step_number, event_of}

-- what stands in a Step at the places of the answer and of the block after is this answer and this block
pub record Shows (L : Layout) (r : List ℕ) (x : Answer) (c : List ℕ) : Type 0 where
  pub number : spelt r number_at ≡ x.number
  pub value : spelt r value_at ≡ x.value
  pub block : take L.size (drop block_after_at r) ≡ c

-- what stands there behind an old block is what stands behind it in c; an old Step has nothing there
abbrev pub ShowsBehind : Bool → List ℕ → List ℕ → Type 0
ShowsBehind true r c = Unit {0}
ShowsBehind false r c = drop OLD_BLOCK_SIZE (take BLOCK_SIZE (drop block_after_at r)) ≡ drop OLD_BLOCK_SIZE c

-- a block of either layout as the machine has it, c being the machine's
abbrev pub wide : Bool → List ℕ → List ℕ
wide true b = with_hdcr0 b
wide false b = b

abbrev pub narrow : Bool → List ℕ → List ℕ
narrow old c = take (layout old).size c

pub record IsWide (old : Bool) (c : List ℕ) : Type 0 where
  pub size : length (narrow old c) ≡ (layout old).size
  pub is : c ≡ wide old (narrow old c)

-- r is the rest of the trace, b the block before, n the number and c what the block became
pub record Judged (L : Layout) (r b : List ℕ) (n : ℕ) (c : List ℕ) : Type 0 where
  pub number : n ≡ step_number L b r
  pub block : n ≡ ACCEPTED → c ≡ L.after b (event_of r)

-- the same by the machine's blocks, of which the one after a right Step is the layout's too
pub record JudgedWide (old : Bool) (r b : List ℕ) (n : ℕ) (c : List ℕ) : Type 0 where
  pub judged : Judged (layout old) r (narrow old b) n (narrow old c)
  pub still : n ≡ ACCEPTED → IsWide old c

-- how many Steps are right, and the number of the next one's fault
pub record Run : Type 0 where
  pub right : ℕ
  pub fault : ℕ

-- the code's, in numbers
abbrev pub in_numbers : code.Run → Run
in_numbers v = record { right = v.right; fault = number_of v.outcome }

module _ (L : Layout) where
  -- the block after k Steps from the front of r on, b being the block before them
  unfoldable pub block_after : ℕ → List ℕ → List ℕ → List ℕ
  block_after zero b r = b
  block_after (suc k) b r = L.after (block_after k b r) (event_of (drop (step_size L * k) r))

  -- what is said of the one behind them
  abbrev pub number_behind : ℕ → List ℕ → List ℕ → ℕ
  number_behind k b r = step_number L (block_after k b r) (drop (step_size L * k) r)

  -- so many Steps were to be judged, from the front of r on and from the block b; v says how many are right and what is wrong with
  -- the next one, if anything, and c is what the block became
  pub record Went (r : List ℕ) (count : ℕ) (b : List ℕ) (v : Run) (c : List ℕ) : Type 0 where
    pub few : v.right ≤ count
    pub inside : step_size L * v.right ≤ length r
    pub right : (j : ℕ) → j < v.right → number_behind j b r ≡ ACCEPTED
    pub all : v.fault ≡ ACCEPTED → (v.right ≡ count) × (c ≡ block_after v.right b r)
    pub wrong : (v.fault ≡ ACCEPTED → ⊥) → (v.right < count) × (v.fault ≡ number_behind v.right b r)
