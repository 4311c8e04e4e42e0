-- docs/FORMAT.md, sections 7.2 to 7.5: small cases, by computation.
use Rattle.std.specs.Prelude.{◌≡◌, List, [], ◌∷◌, true, false, ℕ, pos, negsuc, length, get_or}
use Rattle.hbc_io_leb.specs.Answers.{sleb_of}
use Rattle.hbc_io.specs.Answer.{gives, refused_at}
use Rattle.hbc_io.specs.Plain.{span_of}
use Rattle.hbc_io_leb.specs.Signed.{low32}
use Rattle.hbc_io_leb.specs.Numbers.{unsigned, signed, exact}
use Rattle.hbc_debug_parts.specs.Along.{every}
use Rattle.hbc_debug_parts.specs.Parts.{no_parts, no_section, parts_of}
use Rattle.hbc_debug_strings.specs.Strings.{strings_of, string_numbers}
use Rattle.hbc_debug_scopes.specs.Scopes.{Scope, scopes_of, scope_words, name_words, scope_row, name_count, parent_word, scope_numbers}
use Rattle.hbc_debug_scopes.specs.Scopes.{scope_width, offset_place, parent_place, flags_place, first_place, count_place}
use Rattle.hbc_debug_rising.specs.Rising.{last_name, none, name}
use Rattle.hbc_debug_callees.specs.Callees.{pairs_of, callee_numbers}
use Rattle.hbc_debug.specs.Debug.{contents_in, numbers_read, all_exact}

pub record Cases : Type 0 where
  -- two strings and a cut one: 02 41 42 01 43 05 44
  pub strings : strings_of (2 ∷ 65 ∷ 66 ∷ 1 ∷ 67 ∷ 5 ∷ 68 ∷ []) ≡ span_of 1 2 ∷ span_of 4 1 ∷ []
  -- one scope: parent -1, flags 0, names 0 and 3 of two strings: 7F 00 02 00 03
  pub scope : scopes_of (127 ∷ 0 ∷ 2 ∷ 0 ∷ 3 ∷ [])
      ≡ record { offset = 0; front = record { parent = negsuc 0; flags = pos 0; count = 2 }; names = sleb_of (0 ∷ []) ∷ sleb_of (3 ∷ []) ∷ [] } ∷ []
  -- its row has no parent, and the name out of range is absent
  pub scope_row_lem : scope_words (scopes_of (127 ∷ 0 ∷ 2 ∷ 0 ∷ 3 ∷ [])) ≡ 0 ∷ 4294967295 ∷ 0 ∷ 0 ∷ 2 ∷ []
  pub scope_names : name_words 2 (scopes_of (127 ∷ 0 ∷ 2 ∷ 0 ∷ 3 ∷ [])) ≡ 0 ∷ 4294967295 ∷ []
  -- which word of a row is which
  pub row_offset : (first : ℕ) (x : Scope) → get_or (scope_row first x) offset_place 0 ≡ x.offset
  pub row_parent : (first : ℕ) (x : Scope) → get_or (scope_row first x) parent_place 0 ≡ parent_word x.front.parent
  pub row_flags : (first : ℕ) (x : Scope) → get_or (scope_row first x) flags_place 0 ≡ low32 x.front.flags
  pub row_first : (first : ℕ) (x : Scope) → get_or (scope_row first x) first_place 0 ≡ first
  pub row_count : (first : ℕ) (x : Scope) → get_or (scope_row first x) count_place 0 ≡ name_count x
  pub row_width : (first : ℕ) (x : Scope) → length (scope_row first x) ≡ scope_width
  -- names cut after the first of two: the scope is kept, with one name: 00 01 02 01 80
  pub scope_cut : scope_words (scopes_of (0 ∷ 1 ∷ 2 ∷ 1 ∷ 128 ∷ [])) ≡ 0 ∷ 0 ∷ 1 ∷ 0 ∷ 1 ∷ []
  -- a negative count, or one above the bytes left, ends the list: 00 00 7F, and 00 00 01
  pub scope_negative : scopes_of (0 ∷ 0 ∷ 127 ∷ 0 ∷ []) ≡ []
  pub scope_above : scopes_of (0 ∷ 0 ∷ 1 ∷ []) ≡ []
  -- two entries with one address, 3 of them in all: the last known name wins: 03 07 00 07 01 07 05
  pub callee_last : last_name 7 none (pairs_of 2 (3 ∷ 7 ∷ 0 ∷ 7 ∷ 1 ∷ 7 ∷ 5 ∷ [])) ≡ name 1
  -- numbers that were read: the length of a string that is cut, nine FF and 02; the parent and the flags of a scope that is given up, 80 01 02 80; a count
  -- that is refused, 00 00 7F 00, and 05; an unknown name, 00 00 01 09, and 01 05 09; a callee's address whose name fails, 01 05 80, and nothing after an
  -- address that fails, 01 80
  pub cut_length : string_numbers (255 ∷ 255 ∷ 255 ∷ 255 ∷ 255 ∷ 255 ∷ 255 ∷ 255 ∷ 255 ∷ 2 ∷ [])
      ≡ unsigned (255 ∷ 255 ∷ 255 ∷ 255 ∷ 255 ∷ 255 ∷ 255 ∷ 255 ∷ 255 ∷ 2 ∷ []) ∷ []
  pub cut_length_lost : every exact (string_numbers (255 ∷ 255 ∷ 255 ∷ 255 ∷ 255 ∷ 255 ∷ 255 ∷ 255 ∷ 255 ∷ 2 ∷ [])) ≡ false
  pub given_up : scope_numbers (128 ∷ 1 ∷ 2 ∷ 128 ∷ []) ≡ signed (128 ∷ 1 ∷ []) ∷ signed (2 ∷ []) ∷ []
  pub refused_count : scope_numbers (0 ∷ 0 ∷ 127 ∷ 0 ∷ []) ≡ signed (0 ∷ []) ∷ signed (0 ∷ []) ∷ signed (127 ∷ []) ∷ []
  pub refused_callees : callee_numbers 1 (5 ∷ []) ≡ signed (5 ∷ []) ∷ []
  pub unknown_name : scope_numbers (0 ∷ 0 ∷ 1 ∷ 9 ∷ []) ≡ signed (0 ∷ []) ∷ signed (0 ∷ []) ∷ signed (1 ∷ []) ∷ signed (9 ∷ []) ∷ []
  pub unknown_callee : callee_numbers 1 (1 ∷ 5 ∷ 9 ∷ []) ≡ signed (1 ∷ []) ∷ signed (5 ∷ []) ∷ signed (9 ∷ []) ∷ []
  pub name_fails : callee_numbers 1 (1 ∷ 5 ∷ 128 ∷ []) ≡ signed (1 ∷ []) ∷ signed (5 ∷ []) ∷ []
  pub address_fails : callee_numbers 1 (1 ∷ 128 ∷ []) ≡ signed (1 ∷ []) ∷ []
  -- offset 0 is empty, and so is 2^32 - 1 and the end; a header that is too short is refused 3
  pub empty_0 : parts_of (1 ∷ 2 ∷ []) 0 ≡ gives no_parts
  pub empty_all_ones : parts_of (1 ∷ 2 ∷ []) no_section ≡ gives no_parts
  pub empty_end : parts_of (1 ∷ 2 ∷ []) 2 ≡ gives no_parts
  pub short_header : parts_of (1 ∷ 2 ∷ []) 1 ≡ refused_at 3 0
  -- nothing is read of an empty section, whatever the file, and then the mark is true
  pub none_read : (file : List ℕ) → numbers_read (contents_in file no_parts) ≡ []
  pub none_exact : (file : List ℕ) → all_exact (contents_in file no_parts) ≡ true
