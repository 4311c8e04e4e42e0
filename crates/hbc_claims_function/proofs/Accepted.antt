-- What an accepted call says of its tests, and what a refused one leaves.
use Rattle.std.specs.Prelude.{Err}
use Prim.Native.Nat.{ℕ}
use mathlib.Core.Path.{◌≡◌, refl}
use mathlib.Core.List.{List}
use Rattle.hbc_io.specs.declared.Refusal.{Refusal}
use Rattle.hbc_function_record.specs.declared.Layout.{Layout}
use Rattle.hbc_io.specs.Answer.{Answer, gives, refuses, asked, and_then}
use Rattle.hbc_function_header.specs.Header.{function_at, FunctionRow}
use Rattle.hbc_function_header.specs.Meets.{meets}
use Rattle.hbc_function_totals.specs.declared.Totals.{Totals}
use Rattle.hbc_function.specs.Table.{scan, all, Table, read_answer, ReadFunctions}
use Rattle.hbc_function.specs.Refresh.{kept_met, if_kept, refresh_answer, RefreshFunctions}
use Rattle.hbc_io.proofs.Exits.{not_given, reached}
use Rattle.hbc_rows.specs.Rows.{row_at}
use Rattle.hbc_function_record.specs.Row.{width}
use Rattle.hbc_function_bytes.specs.Bytes.{right_row}
use Rattle.hbc_function_write.specs.Write.{right_end, write_answer}
use Rattle.hbc_function_write.proofs.Plans.{through, all_checked}
use Rattle.hbc_claims_function.specs.Accepted.{Accepted, Refreshable, Writable}

pub un_asked : {A : Type 0} (a : Answer A) → asked a ≡ gives tt → (v : A) × (a ≡ gives v)
un_asked (gives v) e = (v, refl)
un_asked (refuses x) e = absurd (not_given e)

pub accepted : (s : List ℕ) (layout : Layout) (start count words : ℕ) → read_answer s layout start count words ≡ gives tt → Accepted s layout start count words
unfolding read_answer
accepted s layout start count words e =
    let p = reached _ _ _ _ not_given e in
    let q = reached _ _ _ _ not_given p.1 in
    let r = reached _ _ _ _ not_given q.1 in
    let w = un_asked (scan all (function_at s layout start) count) r.1 in
    record { short = p.0; begins = q.0; holds = r.0; number = w.0; scans = w.1 }

un_kept : (a : Answer ℕ) (b : Answer Totals) (k : ℕ) → and_then a (λ n. if_kept n b) ≡ gives k → (a ≡ gives k) × ((now : Totals) × (b ≡ gives now))
un_kept (gives n) (gives t) k e = (e, (t, refl))
un_kept (gives n) (refuses x) k e = absurd (not_given e)
un_kept (refuses x) b k e = absurd (not_given e)

pub refreshable : (s : List ℕ) (layout : Layout) (start count low high : ℕ) (t : Table) (k : ℕ) → refresh_answer s layout start count low high t ≡ gives k
    → Refreshable s layout start count low high t k
unfolding refresh_answer
refreshable s layout start count low high t k e =
    let a = reached _ _ _ _ not_given e in
    let b = reached _ _ _ _ not_given a.1 in
    let c = reached _ _ _ _ not_given b.1 in
    let d = reached _ _ _ _ not_given c.1 in
    let f = reached _ _ _ _ not_given d.1 in
    let g = reached _ _ _ _ not_given f.1 in
    let u = un_kept (scan (meets s layout start low high) (function_at s layout start) count) (kept_met s layout start low high t count) k g.1 in
    record { short = a.0; begins = b.0; rises = c.0; ends = d.0; holds = f.0; fits = g.0; scans = u.0; now = u.1.0; keeps = u.1.1 }

-- ---- a write

given_is : {v w : ℕ} → ◌≡◌ {A = Answer ℕ} (gives v) (gives w) → w ≡ v
given_is e = cc

pub writable : (rows : List ℕ) (layout : Layout) (start count large : ℕ) (b : List ℕ) (e : ℕ) → write_answer rows layout start count large b ≡ gives e
    → Writable rows layout start count large b e
unfolding write_answer
writable rows layout start count large b e h =
    let f1 = reached _ _ _ _ not_given h in
    let f2 = reached _ _ _ _ not_given f1.1 in
    let f11 = reached _ _ _ _ not_given f2.1 in
    let f13 = through _ _ f11.1 in
    let f14 = through _ _ f13.1 in
    let f15 = reached _ _ _ _ not_given f14.1 in
    let f4 = reached _ _ _ _ not_given f15.1 in
    record {
      short = f1.0;
      begins = f2.0;
      holds = f11.0;
      right = λ i l. all_checked 13 (λ i. right_row layout i (row_at width rows i)) count i l f13.0;
      ends = λ i l. all_checked 14 (right_end layout (row_at width rows) large) count i l f14.0;
      after = f15.0;
      fits = f4.0;
      end = given_is f4.1;
    }

-- ---- a refusal leaves the table

pub read_left : (s : List ℕ) (layout : Layout) (start count : ℕ) {x : Refusal} {t t' : Table} → ReadFunctions s layout start count t (Err x) t' → t' ≡ t
read_left s layout start count p = p.leaves

pub was_left : (s : List ℕ) (layout : Layout) (start count low high : ℕ) {x : Refusal} {t t' : Table} → RefreshFunctions s layout start count low high t (Err x) t'
    → t' ≡ t
was_left s layout start count low high p = p.leaves

pub row_left : (s : List ℕ) (layout : Layout) (start i : ℕ) {x : Refusal} {t t' : List ℕ} → FunctionRow s layout start i t (Err x) t' → t' ≡ t
row_left s layout start i p = p.leaves
