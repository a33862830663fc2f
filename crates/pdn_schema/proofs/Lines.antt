-- The loop over the lines.
use Rattle.std.proofs.Common.{◌≡◌, ℕ, ◌+◌, ◌-◌, ◌≤◌, ◌<◌, List, [], length, drop, take, Result, Ok, Err, refl, sym, ap, ◌∙◌, arith}
use Rattle.pdn_schema.specs.declared.read.SchemaErr.{SchemaErr}
use Rattle.pdn_schema.specs.declared.read.SchemaErr.TheVariants.{Line, Memory}
use Rattle.pdn_schema.specs.Models.{Part}
use Rattle.pdn_schema.specs.Cut.{cut_from}
use Rattle.pdn_schema.specs.Words.{run, is_line_byte, line_end, line_piece}
use Rattle.pdn_schema.specs.Reading.{go_on, line_read, read_lines, Fails, Reads}
use Rattle.pdn_schema.proofs.Cutting.{cut_pass, cut_take, cut_end, tail_is}

pub lines_pass : (n : ℕ) (p : Part) (bytes : List ℕ) (i left : ℕ) (total : Result Part SchemaErr) → i < length bytes → 0 < left
    → read_lines n p (cut_from line_piece left (drop i bytes)) ≡ total → read_lines n p (cut_from line_piece (left - 1) (drop (i + 1) bytes)) ≡ total
lines_pass n p bytes i left total lt more so_far = rw (← cut_pass line_piece bytes i left lt more) so_far

-- the line at the front, which has n bytes before its end
here : (n : ℕ) (p : Part) (bytes : List ℕ) (i left len end : ℕ) → i < length bytes → left ≤ 0 → len ≡ run is_line_byte (take (length bytes - i) (drop i bytes)) → end ≡ line_end (take (length bytes - i) (drop i bytes)) len
    → read_lines n p (cut_from line_piece left (drop i bytes)) ≡ go_on (line_read n p (take end (take (length bytes - i) (drop i bytes)))) (λ q. read_lines (n + 1) q (cut_from line_piece len (drop (i + 1) bytes)))
unfolding read_lines
here n p bytes i left len end lt none is stops =
    let zero_left : left ≡ 0 = omega arith in
    rw (zero_left, cut_take line_piece bytes i lt, stops, is, tail_is i bytes) refl

pub lines_next : (n : ℕ) (p q : Part) (bytes : List ℕ) (i left len end : ℕ) (total : Result Part SchemaErr) → i < length bytes → left ≤ 0 → len ≡ run is_line_byte (take (length bytes - i) (drop i bytes)) → end ≡ line_end (take (length bytes - i) (drop i bytes)) len
    → line_read n p (take end (take (length bytes - i) (drop i bytes))) ≡ Ok q → read_lines n p (cut_from line_piece left (drop i bytes)) ≡ total → read_lines (n + 1) q (cut_from line_piece len (drop (i + 1) bytes)) ≡ total
lines_next n p q bytes i left len end total lt none is stops e so_far =
    let one : read_lines n p (cut_from line_piece left (drop i bytes)) ≡ read_lines (n + 1) q (cut_from line_piece len (drop (i + 1) bytes)) = here n p bytes i left len end lt none is stops ∙ rw e refl in
    sym one ∙ so_far

pub lines_stop : (x : SchemaErr) (n : ℕ) (p : Part) (bytes : List ℕ) (i left len end : ℕ) (total : Result Part SchemaErr) → i < length bytes → left ≤ 0 → len ≡ run is_line_byte (take (length bytes - i) (drop i bytes)) → end ≡ line_end (take (length bytes - i) (drop i bytes)) len
    → Fails x (line_read n p (take end (take (length bytes - i) (drop i bytes)))) → read_lines n p (cut_from line_piece left (drop i bytes)) ≡ total → Fails x total
lines_stop Memory n p bytes i left len end total lt none is stops e so_far = tt
lines_stop (Line k c) n p bytes i left len end total lt none is stops e so_far =
    let one : read_lines n p (cut_from line_piece left (drop i bytes)) ≡ Err (Line k c) = here n p bytes i left len end lt none is stops ∙ rw e refl in
    sym so_far ∙ one

pub lines_end : (x : Result Part SchemaErr) (n : ℕ) (p : Part) (bytes : List ℕ) (i left : ℕ) (total : Result Part SchemaErr) → length bytes ≤ i → Reads x (read_lines n p []) → read_lines n p (cut_from line_piece left (drop i bytes)) ≡ total → Reads x total
lines_end (Ok q) n p bytes i left total le given so_far = sym so_far ∙ ap (read_lines n p) (cut_end line_piece left i bytes le) ∙ given
lines_end (Err Memory) n p bytes i left total le given so_far = tt
lines_end (Err (Line k c)) n p bytes i left total le given so_far = sym so_far ∙ ap (read_lines n p) (cut_end line_piece left i bytes le) ∙ given
