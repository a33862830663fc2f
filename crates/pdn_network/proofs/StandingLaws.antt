-- The text of the standing queries says them.
use Rattle.std.proofs.Common.{◌≡◌, [], Ok, refl}
use Rattle.pdn_sql.specs.Part.{whole, many_read}
use Rattle.pdn_sql.specs.Marks.{marked_tokens, marked}
use Rattle.pdn_sql.specs.Reading.{Says}
use Rattle.pdn_sql.specs.Tokens.{tokens_from, keyword_of, number_token, code_piece, mark_token, word_piece, number_piece, mark_piece, piece_of}
use Rattle.pdn_base.specs.Codes.{is_code_byte, is_code, code_number}
use Rattle.pdn_sql.specs.Grammar.{word_part, mark_part, number, code, op, name, dot_name, col, next_col, cols, plus, term, operand, cmp, next_cmp, cmps, choice, clause, next_clause, cond, direction, order_col, next_order_col, order_cols, partition, window_order, window, row_number, count, what, as_name, item, next_item, items, source_name, source, joined, join, sources, distinct, filter, having, group, order_name, next_order_name, order_names, order, limit, block, named, next_named, nameds, withs, query, file}
use Rattle.pdn_sql.proofs.Laws.{says_read}
use Rattle.pdn_network.specs.Standing.{standing_text, standing, recurrent_text, common_text, late_text}

-- the reading comes to the end of the text
standing_read : whole file (marked_tokens 3 standing_text) ≡ Ok (standing, [])
unfolding standing standing_text recurrent_text common_text late_text tokens_from keyword_of number_token code_piece mark_token word_piece number_piece mark_piece piece_of is_code_byte is_code code_number marked many_read word_part mark_part number code op name dot_name col next_col cols plus term operand cmp next_cmp cmps choice clause next_clause cond direction order_col next_order_col order_cols partition window_order window row_number count what as_name item next_item items source_name source joined join sources distinct filter having group order_name next_order_name order_names order limit block named next_named nameds withs query file
standing_read = refl

pub standing_says : Says 3 standing_text standing
standing_says = says_read 3 standing_text standing [] standing_read
