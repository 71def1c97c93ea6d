-- The answer numbers (document 01, "Answer numbers", and "The trace" for the checker's).
use Rattle.std.specs.Prelude.{ℕ}

-- a step's
abbrev pub DONE : ℕ
DONE = 0

abbrev pub BAD_SIZE : ℕ
BAD_SIZE = 1

abbrev pub BAD_MODE : ℕ
BAD_MODE = 2

abbrev pub BAD_STATE : ℕ
BAD_STATE = 3

abbrev pub BAD_EVENT : ℕ
BAD_EVENT = 4

abbrev pub NOT_HERE : ℕ
NOT_HERE = 5

abbrev pub NO_REGISTER : ℕ
NO_REGISTER = 6

abbrev pub NO_RIGHT : ℕ
NO_RIGHT = 7

-- (document 02, Nos. 8 and 10)
abbrev pub DISABLED : ℕ
DISABLED = 16

abbrev pub OWN_REGISTER : ℕ
OWN_REGISTER = 17

-- the checker's, which answers DONE of a trace that it accepts
abbrev pub SHORT : ℕ
SHORT = 8

abbrev pub BAD_RECORD : ℕ
BAD_RECORD = 9

abbrev pub BAD_COUNT : ℕ
BAD_COUNT = 10

abbrev pub WRONG_STEP : ℕ
WRONG_STEP = 11

abbrev pub TRAILING : ℕ
TRAILING = 12

-- the counts' (document 02, No. 1), a feeding's (No. 6), and of who writes into a lent buffer (No. 7)
abbrev pub FULL : ℕ
FULL = 13

abbrev pub CLOSED : ℕ
CLOSED = 14

abbrev pub NO_ROOM : ℕ
NO_ROOM = 15

-- of who reads and writes instruction words (No. 14)
abbrev pub NOT_BANKED : ℕ
NOT_BANKED = 18
