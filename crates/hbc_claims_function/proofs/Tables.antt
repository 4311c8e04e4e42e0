-- What an accepted call leaves, from its promise.
use Rattle.std.specs.Prelude.{Ok}
use Prim.Native.Nat.{ℕ, ◌+◌, ◌*◌, ◌≤◌, ◌<◌}
use mathlib.Core.Path.{◌≡◌, refl, sym, ap}
use mathlib.Core.List.{List}
use mathlib.Core.Bool.{Bool, true}
use lib.ListN.{length, get_or}
use Rattle.hbc_function_record.specs.declared.Layout.{Layout}
use Rattle.hbc_io.specs.Answer.{gives}
use Rattle.hbc_function_header.specs.Header.{function_at}
use Rattle.hbc_function_record.specs.Row.{width}
use Rattle.hbc_function_header.specs.Meets.{meets}
use Rattle.hbc_function.proofs.Laws.{put_length, word_at}
use Rattle.hbc_function.specs.Table.{put_rows, all, scan, Table, ReadFunctions}
use Rattle.hbc_function.specs.Refresh.{RefreshFunctions}
use Rattle.hbc_claims_function.proofs.Words.{word_kept, word_behind}
use Rattle.hbc_claims_function.proofs.Scans.{a_record, scan_each, scan_counts}
use Rattle.hbc_claims_function.proofs.Accepted.{accepted, refreshable}
use Rattle.hbc_claims_law.specs.Terms.{RowWord}
use Rattle.hbc_claims_function.specs.Tables.{Filled, Rewritten}

-- word c of row i, where functions 0 to n - 1 were put and i is one that was chosen
pub row_word : (chosen : ℕ → Bool) (s : List ℕ) (layout : Layout) (start n k : ℕ) (t : List ℕ) → n * width ≤ length t → scan chosen (function_at s layout start) n ≡ gives k
    → (i c : ℕ) → i < n → chosen i ≡ true → c < width → RowWord s layout start i c (get_or (put_rows chosen (function_at s layout start) t n) (i * width + c) 0)
row_word chosen s layout start n k t h e i c l p q =
    let f = function_at s layout start in
    let r = a_record (f i) (scan_each chosen f n k i l e p) in
    record { read_as = r.0; found = r.1; is = word_at chosen f t n i c r.0 h l q p r.1 }

pub filled : {s : List ℕ} {layout : Layout} {start count : ℕ} {t t' : Table} → ReadFunctions s layout start count t (Ok tt) t'
    → Filled s layout start count t.rows t'.rows
filled {s} {layout} {start} {count} {t} {t'} p =
    let a = accepted s layout start count (length t.rows) (sym p.says) in
    rw (ap (λ (x : Table). x.rows) p.leaves) (record {
      rows = λ i c l q. row_word all s layout start count a.number t.rows a.holds a.scans i c l refl q;
      behind = record { rest = word_behind all (function_at s layout start) t.rows count; long = put_length all (function_at s layout start) t.rows count };
    })

pub rewritten : {s : List ℕ} {layout : Layout} {start count low high k : ℕ} {t t' : Table} → RefreshFunctions s layout start count low high t (Ok k) t'
    → Rewritten s layout start count low high t.rows k t'.rows
rewritten {s} {layout} {start} {count} {low} {high} {k} {t} {t'} p =
    let a = refreshable s layout start count low high t k (sym p.says) in
    let m = meets s layout start low high in
    rw (ap (λ (x : Table). x.rows) p.leaves) (record {
      counts = scan_counts m (function_at s layout start) count k a.scans;
      met = row_word m s layout start count k t.rows a.holds a.scans;
      unmet = λ i c e q. word_kept m (function_at s layout start) t.rows count i c q e;
      behind = record { rest = word_behind m (function_at s layout start) t.rows count; long = put_length m (function_at s layout start) t.rows count };
    })
