-- docs/FORMAT.md, sections 3.4, 3.6 and 3.8: what an accepted call leaves of any table lent, word by word.
use Rattle.std.specs.Prelude.{ℕ, ◌+◌, ◌*◌, ◌<◌, ◌≡◌, List, true, false, get_or}
use Rattle.hbc_function_record.specs.declared.Layout.{Layout}
use Rattle.hbc_function_record.specs.Row.{width}
use Rattle.hbc_function_header.specs.Meets.{meets}
use Rattle.hbc_claims_law.specs.Terms.{count_of, Behind, RowWord}

-- an accepted read: each row is its function's, and every word behind the rows is as it was
pub record Filled (s : List ℕ) (layout : Layout) (start count : ℕ) (before after : List ℕ) : Type 0 where
  pub rows : (i c : ℕ) → i < count → c < width → RowWord s layout start i c (get_or after (i * width + c) 0)
  pub behind : Behind (count * width) before after

-- an accepted refresh of any table: each row that meets the span is the new file's, every other word is as it was, and the answer is how many meet it
pub record Rewritten (s : List ℕ) (layout : Layout) (start count low high : ℕ) (before : List ℕ) (k : ℕ) (after : List ℕ) : Type 0 where
  pub counts : k ≡ count_of (meets s layout start low high) count
  pub met : (i c : ℕ) → i < count → meets s layout start low high i ≡ true → c < width → RowWord s layout start i c (get_or after (i * width + c) 0)
  pub unmet : (i c : ℕ) → meets s layout start low high i ≡ false → c < width → get_or after (i * width + c) 0 ≡ get_or before (i * width + c) 0
  pub behind : Behind (count * width) before after
