-- Each exported call leaves one outcome: what the call behind it leaves is one, and so is its number.
use Prim.Native.Nat.{ℕ}
use mathlib.Core.Path.{◌≡◌, refl, sym, ap, ◌∙◌}
use mathlib.Core.Bool.{Bool}
use Rattle.hbc_io.specs.Outcome.{Outcome}
use Rattle.hbc_io.specs.Answer.{Answer}
use Rattle.hbc_io.specs.declared.Span.{Span}
use Rattle.hbc_io.proofs.Exits.{alone}
use Rattle.hbc_io.proofs.Alone.{one_moved, one_answer}
use Rattle.hbc_c_code.specs.Told.{Moves, Reads}
use Rattle.hbc_c_code.proofs.Tolds as told
use Rattle.hbc_c_io.specs.Io.{ReadsSpan, Marked}
use Rattle.hbc_c_function.proofs.ByLayouts.{alone_by}
use Rattle.hbc_claims_law.proofs.Law.{same}
use Rattle.hbc_claims_function.proofs.Unique.{table_parts}
use Rattle.hbc_claims_buffer.proofs.Unique.{both}
use Rattle.hbc_clean.specs.Bundle.{Given, Bundle, Verdict}
use Rattle.hbc_c_clean.specs.Clean.{Placed, place_left}
use Rattle.hbc_claims_clean.proofs.Unique.{one_bundle}
use Rattle.hbc_claims_c.specs.Unique.{Unique}

module _ {A : Type 0} {o : Outcome A} {r q at at' : ℕ} where
  moves_one : Moves o r at → Moves o q at' → (r ≡ q) × (at ≡ at')
  moves_one e f = (same e.says f.says, same e.moves f.moves)

  read_one : {before v w : A} → Reads o before r at v → Reads o before q at' w → (r ≡ q) × (at ≡ at') × (v ≡ w)
  read_one e f = let m = moves_one e.tells f.tells in (m.0, m.1, same e.leaves f.leaves)

span_one : {o : Outcome Span} {start₀ len₀ r q at at' start start' len len' : ℕ} → ReadsSpan o start₀ len₀ r at start len
    → ReadsSpan o start₀ len₀ q at' start' len' → (r ≡ q) × (at ≡ at') × (start ≡ start') × (len ≡ len')
span_one e f = let m = moves_one e.tells f.tells in (m.0, m.1, same e.starts f.starts, same e.counts f.counts)

module _ {marks : Outcome Bool} {exact₀ x y : ℕ} where
  mark_one : {P Q : Type 0} → Marked P marks exact₀ x → Marked Q marks exact₀ y → x ≡ y
  mark_one e f = same e.marks f.marks

  leb_one : {A : Type 0} {o : Outcome A} {before v w : A} {r q at at' : ℕ} → Marked (Reads o before r at v) marks exact₀ x
      → Marked (Reads o before q at' w) marks exact₀ y → (r ≡ q) × (at ≡ at') × (v ≡ w) × (x ≡ y)
  leb_one e f = let m = read_one e.promised f.promised in (m.0, m.1, m.2, mark_one e f)

one_placed : {g : Given} {before after later : ℕ} (a b : Bundle) → Placed g before a after → Placed g before b later → (a ≡ b) × (after ≡ later)
one_placed {before = before} a b p q =
    let e = p.is ∙ sym q.is in
    (one_bundle a b e, p.left ∙ ap (λ (x : Answer Verdict). place_left x before) e ∙ sym q.left)

pub unique : Unique
unique = record {
  code = λ k a r q s u. same;
  refused = λ k a r q s u e f. (same e.0 f.0, same e.1 f.1);
  moved = λ k a r q s u. moves_one;
  hbc_bits = λ k a r q s u. same;
  hbc_remaining = λ k a r q s u. same;
  hbc_seek = λ k a r q s u. moves_one;
  hbc_align = λ k a r q s u. moves_one;
  hbc_read_u8 = λ k a r q s u. read_one;
  hbc_read_u16 = λ k a r q s u. read_one;
  hbc_read_u32 = λ k a r q s u. read_one;
  hbc_read_u64 = λ k a r q s u. read_one;
  hbc_read_i8 = λ k a r q s u. read_one;
  hbc_read_i32 = λ k a r q s u. read_one;
  hbc_read_f64 = λ k a r q s u. read_one;
  hbc_read_uleb128 = λ k a r q s u. leb_one;
  hbc_read_sleb128 = λ k a r q s u. leb_one;
  hbc_read_bytes = λ k a r q s u. span_one;
  hbc_read_cstring = λ k a r q s u. span_one;
  hbc_read_length_prefixed_string = (λ k a r q s u e f. span_one e.promised f.promised, λ k a r q s u. mark_one);
  hbc_read_functions = λ k a r q s u v w. table_parts (alone_by (λ l. told.alone (λ x y. alone one_answer)) v w);
  hbc_refresh_functions = λ k a r q s u v w. table_parts (alone_by (λ l. told.alone (λ x y. alone one_answer)) v w);
  hbc_write_functions = λ k a r q s u. alone_by (λ l. told.alone (λ x y. alone one_answer));
  hbc_read_function = λ k a r q s u. alone_by (λ l. told.alone (λ x y. alone (λ v w e. e)));
  hbc_function_ground = λ k a r q s u. alone_by (λ l v w. (same v.says w.says, same v.holds w.holds));
  hbc_function_meets = λ k a r q s u e f. (alone_by (λ l v w. (same v w, refl)) e f).0;
  hbc_read_u32_table = λ k a r q s u. told.from_alone (λ x y. alone one_moved);
  hbc_read_pair_table = λ k a r q s u. told.from_alone (λ x y. alone one_moved);
  hbc_decode_strings = λ k a r q s u. told.alone (λ x y. alone one_answer);
  hbc_decode_strings_hermes = λ k a r q s u. told.alone (λ x y. alone one_answer);
  hbc_string_bytes = (λ k a r q s u e f. same e.starts f.starts, λ k a r q s u e f. same e.lasts f.lasts);
  hbc_string_text = λ k a r q s u. told.alone (λ x y. alone one_answer);
  hbc_strings_json = λ k a r q s u. told.value_alone (λ x y. alone one_answer);
  hbc_read_literal = (
    λ k a r q s u e f. let m = moves_one e.tells f.tells in (m.0, m.1, same e.kind_left f.kind_left, same e.number_left f.number_left),
    λ k a r q s u e f. same e.word_left f.word_left,
  );
  hbc_read_series = λ k a r q s u e f. both (told.alone (λ x y. alone one_answer) e f);
  hbc_read_object = λ k a r q s u e f. both (told.alone (λ x y. alone one_answer) e f);
  hbc_read_handlers = λ k a r q s u. told.value_alone (λ x y. alone one_answer);
  hbc_why_no_handlers = λ k a r q s u e f. (same e.says f.says, same e.leaves f.leaves);
  hbc_trailing_sections = λ k a r q s u e f. (same e.says f.says, same e.leaves f.leaves);
  hbc_read_debug = λ k a r q s u. told.value_alone (λ x y. alone one_answer);
  hbc_check_bundle = λ k a r q s u. alone_by (λ l. told.alone one_placed);
}
