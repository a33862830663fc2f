-- Tapes: a word for each ticket, unit and place.
use Rattle.std.specs.Prelude.{ℕ, ◌+◌, ◌*◌, ◌%◌, ◌^◌, ◌==◌, ◌&&◌, if◌then◌else◌, List, [], ◌∷◌, map, slice_index}
use Rattle.std.specs.List.{range_with_len}
use Rattle.std.specs.declared.alloc.Global.{Global}
use Rattle.std.specs.declared.vec.Vec.{Vec}
use Rattle.rand_chacha.specs.ChaCha.{word_at, key_of}

-- the first words of a section, where `word` gives the one at each place
abbrev pub first_words : (ℕ → ℕ) → ℕ → List ℕ
first_words word len = map word (range_with_len 0 len)

-- ---- given entries
pub record Entry : Type 0 where
  pub ticket : ℕ
  pub unit : ℕ
  pub words : List ℕ

abbrev pub entry_of : ℕ × ℕ × Vec ℕ Global → Entry
entry_of given = record { ticket = given.0; unit = given.1; words = given.2.items }

-- the words of the first entry of a ticket and unit
abbrev pub words_for : List Entry → ℕ → ℕ → List ℕ
words_for [] ticket unit = []
words_for (e ∷ es) ticket unit =
    if e.ticket == ticket && e.unit == unit then e.words else words_for es ticket unit

-- and zero past them
abbrev pub list_tape : List Entry → ℕ → ℕ → ℕ → ℕ
list_tape entries ticket unit place = slice_index (words_for entries ticket unit) place

-- ---- the key stream of ChaCha20, of 2 ^ 68 words of 32 bits for each ticket
-- the place of a word's low half; the high half stands next to it
abbrev pub low_half : ℕ → ℕ → ℕ
low_half unit place = (unit * 2 ^ 32 + 2 * place) % 2 ^ 68

unfoldable pub chacha_tape : List ℕ → ℕ → ℕ → ℕ → ℕ
chacha_tape key ticket unit place =
    word_at 10 (key_of key) ticket (low_half unit place)
    + word_at 10 (key_of key) ticket ((low_half unit place + 1) % 2 ^ 68) * 2 ^ 32
