-- docs/FORMAT.md, section 1.6: the calls of hbc_record, which the programs share that replay recorded answers: one answer each.
use Rattle.std.specs.Prelude.{◌≡◌}
use Rattle.std.specs.Borrow.{MutBor}
use Rattle.hbc_claims_law.specs.Law.{One, OnePart}
use Rattle.hbc_record.proofs.field_at.Reads as of_field_at
use Rattle.hbc_record.proofs.past.Reads as of_past
use Rattle.hbc_record.proofs.field_of.Reads as of_field_of
use Rattle.hbc_record.proofs.head.Reads as of_head
use Rattle.hbc_record.proofs.are.Reads as of_are
use Rattle.hbc_record.proofs.words_are.Reads as of_words_are
use Rattle.hbc_record.proofs.bytes_are.Reads as of_bytes_are
use Rattle.hbc_record.proofs.answers.Reads as of_answers
use Rattle.hbc_record.proofs.leaves.Reads as of_leaves
use Rattle.hbc_record.proofs.same_float.Reads as of_same_float
use Rattle.hbc_record.proofs.lent.Reads as of_lent
use Rattle.hbc_record.proofs.lent_longs.Reads as of_lent_longs
use Rattle.hbc_record.proofs.lent_bytes.Reads as of_lent_bytes
use Rattle.hbc_record.proofs.given.Reads as of_given
use Rattle.hbc_record.proofs.counted.Reads as of_counted
use Rattle.hbc_record.proofs.report.Reads as of_report

-- one part of a table that is handed back by `&mut`: its words, and where in memory they stand
abbrev pub OnePartMut : {K A X E : Type 0} → (K → A → MutBor X → E → Type 0) → Type 0
OnePartMut {K} {A} {X} {E} L = (k : K) (a : A) (r q : MutBor X) (s u : E) → L k a r s → L k a q u → (r.now ≡ q.now) × (r.ref_ptr ≡ q.ref_ptr)

pub record Unique : Type 0 where
  pub field_at : OnePart of_field_at.Learnt
  pub past : One of_past.Learnt
  pub field_of : OnePart of_field_of.Learnt
  pub head : One of_head.Learnt
  pub are : One of_are.Learnt
  pub words_are : One of_words_are.Learnt
  pub bytes_are : One of_bytes_are.Learnt
  pub answers : One of_answers.Learnt
  pub leaves : One of_leaves.Learnt
  pub same_float : One of_same_float.Learnt
  pub lent : OnePartMut of_lent.Learnt
  pub lent_longs : OnePartMut of_lent_longs.Learnt
  pub lent_bytes : OnePartMut of_lent_bytes.Learnt
  pub given : OnePartMut of_given.Learnt
  pub counted : One of_counted.Learnt
  pub report : One of_report.Learnt
