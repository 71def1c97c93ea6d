-- The edition of the rules: the document that they are of, the last request of document 02 that has landed (as have all before
-- it), and which release of these rules this is. Its number has a byte for each, the document's the highest.
use Rattle.std.specs.Prelude.{ℕ, ◌+◌, ◌*◌}

abbrev pub document : ℕ
document = 1

abbrev pub last_request : ℕ
last_request = 14

abbrev pub release : ℕ
release = 0

abbrev pub number : ℕ
number = document * 65536 + (last_request * 256 + release)
