-- The greatest lengths of datagrams and their contents.
use Rattle.std.specs.Prelude.{ℕ}

-- the length of a header in bytes
abbrev pub header_length : ℕ
header_length = 24

-- the greatest length of a datagram in bytes: a DATA of 64 inputs in version 1
abbrev pub longest_datagram : ℕ
longest_datagram = 174

-- the greatest length in version 2: a DATA with a run of 42 pairs
abbrev pub longest_datagram_in_pairs : ℕ
longest_datagram_in_pairs = 172

-- the most inputs in a run
abbrev pub longest_run : ℕ
longest_run = 64

-- the most rows in a SHOW
abbrev pub most_rows : ℕ
most_rows = 16

-- the length of a row in bytes: two for each of four key sets
abbrev pub row_length : ℕ
row_length = 8

-- the most pairs in a run in version 2
abbrev pub most_pairs : ℕ
most_pairs = 42
