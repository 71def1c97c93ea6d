-- What the guest can learn by banked accesses (document 02, No. 12): which words of a block a guest has no way to, when two blocks are
-- alike but for these, and what both give for one list of accesses. Notes, entries and returns are not covered.
use Rattle.std.specs.Prelude.{◌≡◌, Bool, true, false, List, [], ◌∷◌, ℕ, ◌/◌, ◌<◌, length, get_or, take}
use Rattle.words.specs.Word.{word, put}
use Rattle.state.specs.Choice.{◌among◌}
use Rattle.state.specs.Field.{mode_field}
use Rattle.state.specs.Mode.{MONITOR, el1}
use Rattle.state.specs.Number.{DONE}
use Rattle.state.specs.Place.{BLOCK_SIZE, LR_mon, SP_mon, ELR_hyp, SP_hyp, SPSR_mon, SPSR_hyp, CPSR, SCR, SCTLR_s, HSCTLR, VBAR_s}
use Rattle.state.specs.Place.{HVBAR, MVBAR}
use Rattle.state.specs.State.{secure, fault}
use Rattle.rules.specs.Event.{is_banked}
use Rattle.rules.specs.Run.{run, answers}
use Rattle.rules.specs.Step.{answer}
use Rattle.rules.specs.Verdict.{answer_for}
use Rattle.rules.specs.declared.event.Event.{Event}
use Rattle.rules.specs.declared.verdict.Verdict.TheVariants.{Register}

-- ---- the words that the guest has no way to

-- "places 22 to 25, 31, 32, 37, 39, 40, 42 and 43"
abbrev pub exempt_places : List ℕ
exempt_places =
    -- 22 to 25
    LR_mon ∷ SP_mon ∷ ELR_hyp ∷ SP_hyp
    -- 31, 32
    ∷ SPSR_mon ∷ SPSR_hyp
    -- 37, 39, 40
    ∷ SCTLR_s ∷ HSCTLR ∷ VBAR_s
    -- 42, 43
    ∷ HVBAR ∷ MVBAR
    ∷ []

unfoldable pub exempt : ℕ → Bool
exempt p = p among exempt_places

-- the place that the byte j of a block belongs to: a word has four bytes
abbrev pub place_of : ℕ → ℕ
place_of j = j / 4

-- ---- two blocks

-- "alike but for" these: two blocks of their size, with the same bytes at every other place
pub record Alike (b c : List ℕ) : Type 0 where
  pub first_size : length b ≡ BLOCK_SIZE
  pub second_size : length c ≡ BLOCK_SIZE
  pub outside : (j : ℕ) → j < BLOCK_SIZE → exempt (place_of j) ≡ false → get_or b j 0 ≡ get_or c j 0

-- a good block, Non-secure, in an EL1 mode: FIQ, IRQ, Supervisor, Abort, Undefined or System
pub record Guest (b : List ℕ) : Type 0 where
  pub good : fault b ≡ DONE
  pub non_secure : secure (word b CPSR) (word b SCR) ≡ false
  pub in_el1 : el1 (mode_field (word b CPSR)) ≡ true

-- "two good blocks, Non-secure, in the same EL1 mode, alike but for" the places above
pub record Guests (b c : List ℕ) : Type 0 where
  pub first : Guest b
  pub second : Guest c
  pub same_mode : mode_field (word b CPSR) ≡ mode_field (word c CPSR)
  pub alike : Alike b c

-- ---- a list of accesses, and what it carries

-- "any one list of events of codes 10 and 11": their operands may be any, good or bad ones
abbrev pub AllBanked : List Event → Type 0
AllBanked [] = Unit {0}
AllBanked (e ∷ es) = (is_banked e.code ≡ true) × AllBanked es

-- the block c has what b had inside those places: each byte, and each word
pub record KeptInside (b c : List ℕ) : Type 0 where
  pub bytes : (j : ℕ) → j < BLOCK_SIZE → exempt (place_of j) ≡ true → get_or c j 0 ≡ get_or b j 0
  pub words : (p : ℕ) → exempt p ≡ true → word c p ≡ word b p

-- of two blocks and one list: "both give the same answers and values", event by event; after the first n events, of whichever n, they
-- are "alike outside those places, and inside them each block keeps what it had"; and they are good, Non-secure and in one EL1 mode
pub record NothingCarried (b c : List ℕ) (es : List Event) : Type 0 where
  pub same_answers : answers b es ≡ answers c es
  pub stay_alike : (n : ℕ) → Alike (run b (take n es)) (run c (take n es))
  pub first_keeps : (n : ℕ) → KeptInside b (run b (take n es))
  pub second_keeps : (n : ℕ) → KeptInside c (run c (take n es))
  pub stay_guests : (n : ℕ) → Guests (run b (take n es)) (run c (take n es))

-- ---- that it says something: an example, and where it would fail

-- one access that is done on both blocks tells them apart
pub record ToldApart (b c : List ℕ) (e : Event) : Type 0 where
  pub banked : is_banked e.code ≡ true
  pub first_done : (answer b e).number ≡ DONE
  pub second_done : (answer c e).number ≡ DONE
  pub values_differ : (answer b e).value ≡ (answer c e).value → ⊥

-- two such blocks that differ, at an exempt place, and a list that reads a word which is not 0
pub record Example : Type 0 where
  pub place : ℕ
  pub one : List ℕ
  pub other : List ℕ
  pub list : List Event
  pub read : ℕ
  pub guests : Guests one other
  pub inside : exempt place ≡ true
  pub differ : word one place ≡ word other place → ⊥
  pub all_banked : AllBanked list
  pub reads : answers one list ≡ answer_for (Register read) ∷ []
  pub not_zero : read ≡ 0 → ⊥

-- from Monitor: two good blocks, alike, and an access that tells them apart
pub record MonitorLearns : Type 0 where
  pub one : List ℕ
  pub other : List ℕ
  pub event : Event
  pub one_good : fault one ≡ DONE
  pub other_good : fault other ≡ DONE
  pub one_mode : mode_field (word one CPSR) ≡ MONITOR
  pub other_mode : mode_field (word other CPSR) ≡ MONITOR
  pub alike : Alike one other
  pub apart : ToldApart one other event

-- at a place that is not exempt: two good blocks, Non-secure, in the same EL1 mode, that have every other word alike, and an access that
-- tells them apart
pub record PlaceTells : Type 0 where
  pub place : ℕ
  pub one : List ℕ
  pub other : List ℕ
  pub event : Event
  pub not_exempt : exempt place ≡ false
  pub one_guest : Guest one
  pub other_guest : Guest other
  pub same_mode : mode_field (word one CPSR) ≡ mode_field (word other CPSR)
  pub elsewhere : (q : ℕ) → (place ≡ q → ⊥) → word one q ≡ word other q
  pub apart : ToldApart one other event

-- ---- what is proved

pub record GuestTheorems : Type 0 where
  -- the places, by their numbers
  pub numbered : exempt_places ≡ 22 ∷ 23 ∷ 24 ∷ 25 ∷ 31 ∷ 32 ∷ 37 ∷ 39 ∷ 40 ∷ 42 ∷ 43 ∷ []
  pub nothing_carried : (b c : List ℕ) (es : List Event) → Guests b c → AllBanked es → NothingCarried b c es
  -- it speaks of every guest: whatever word an exempt place gets, the block before and the block after are two such blocks
  pub any_word_inside : (b : List ℕ) (p w : ℕ) → length b ≡ BLOCK_SIZE → exempt p ≡ true → Guest b → Guests b (put b p w)
  pub example : Example
  pub monitor_learns : MonitorLearns
  pub place_tells : PlaceTells
