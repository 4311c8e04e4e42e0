-- What an accepted series leaves: kind and payload of each value in front, every other word as it was.
use Prim.Native.Nat.{ℕ, zero, suc, ◌+◌, ◌-◌, ◌≤◌, ◌<◌}
use mathlib.Core.Path.{◌≡◌, refl, sym, ap, ◌∙◌}
use mathlib.Core.List.{List}
use mathlib.Core.Bool.{Bool, true, false}
use native.Mathlib.Omega.{arith}
use borrow.Author.Tests.{eqb-true, eqb-false, leb-false, ne_eqb}
use lib.Dec.{eqb, leb}
use lib.ListN.{length}
use Rattle.hbc_io.specs.Outcome.{Outcome, got, refused, valued, cursor_at, limit}
use Rattle.hbc_io.specs.Answer.{gives}
use Rattle.hbc_io.specs.Lends.{choose}
use Rattle.hbc_io.specs.Plain.{plain_at}
use Rattle.hbc_io.specs.declared.Cursor.{Cursor}
use Rattle.hbc_io.proofs.Reading.{then_got, valued_got}
use Rattle.hbc_io.proofs.Exits.{reached, not_given}
use Rattle.hbc_rows.specs.Rows.{entry_at, filled}
use Rattle.hbc_rows.proofs.Laws.{filled_length}
use Rattle.hbc_rows.proofs.RowsAt.{filled_at, filled_past}
use Rattle.hbc_buffer_literal.specs.Literal.{width_of, literal_of, kind_of}
use Rattle.std.specs.Prelude.{Ok}
use Rattle.hbc_buffer.specs.Series.{Run, run_of, run_at, step, placed, after, value_at, kind_at, payload_at, used_of, series_answer, ReadSeries}
use Rattle.hbc_buffer.proofs.Exits.{apart}
use Rattle.hbc_claims_law.proofs.Tests.{past}
use Rattle.hbc_claims_law.specs.Terms.{Behind, Value}
use Rattle.hbc_claims_buffer.proofs.Used.{after_reach, placed_got, past_none, used_none}

-- ---- each value before the end of a series that was read

record Stepped (s : List ℕ) (c : Cursor) (i : ℕ) : Type 0 where
  held : Run
  from : Cursor
  then : Run
  to : Cursor
  here : after i s c ≡ got held from
  on : step s held from ≡ got then to

stepped_by : (s : List ℕ) (c : Cursor) (n i : ℕ) (b : Bool) → eqb i n ≡ b → i < suc n → (i < n → Stepped s c i) → Stepped s c n → Stepped s c i
stepped_by s c n i true e h less here = let z : i ≡ n = eqb-true i n e in rw z here
stepped_by s c n i false e h less here = let z : (i ≡ n → ⊥) = eqb-false i n e in less (omega arith)

stepped : (n : ℕ) (s : List ℕ) (c : Cursor) (u : Run) (d : Cursor) → after n s c ≡ got u d → (i : ℕ) → i < n → Stepped s c i
unfolding after
stepped zero s c u d e i h = absurd (omega arith)
stepped (suc n) s c u d e i h =
    let p = then_got (after n s c) (λ t m. placed n (step s t m)) u d e in
    stepped_by s c n i (eqb i n) refl h (stepped n s c p.0 p.1 p.2 i)
    (record { held = p.0; from = p.1; then = u; to = d; here = p.2; on = placed_got n (step s p.0 p.1) u d p.3 })

value_is : (f : ℕ → ℕ → ℕ) (s : List ℕ) (c : Cursor) (i : ℕ) (t q : Run) (m k d : Cursor) (x : ℕ) → after i s c ≡ got t m → run_at s t m ≡ got q k
    → plain_at (width_of q.tag) s k ≡ got x d → value_at f s c i ≡ f q.tag x
unfolding value_at
value_is f s c i t q m k d x e g h = rw (e, g, h)

value_at_lem : {s : List ℕ} {c : Cursor} {i : ℕ} → Stepped s c i → Value s c i (kind_at s c i) (payload_at s c i)
unfolding step
value_at_lem {s} {c} {i} v =
    let p = then_got (run_at s v.held v.from) (λ q k. valued (λ (x : ℕ). run_of q.tag (q.left - 1)) (plain_at (width_of q.tag) s k)) v.then v.to v.on in
    let w = valued_got (λ (x : ℕ). run_of p.0.tag (p.0.left - 1)) (plain_at (width_of p.0.tag) s p.1) v.then v.to p.3 in
    let e : payload_at s c i ≡ w.0 = value_is (λ t x. x) s c i v.held p.0 v.from p.1 v.to w.0 v.here p.2 w.1 in
    let k = value_is (λ t x. kind_of (literal_of t x)) s c i v.held p.0 v.from p.1 v.to w.0 v.here p.2 w.1 in
    record {
      run = p.0;
      place = p.1;
      next = v.to;
      stands = rw v.here p.2;
      reads = w.1 ∙ ap (λ (x : ℕ). got x v.to) (sym e);
      is = k ∙ ap (λ (x : ℕ). kind_of (literal_of p.0.tag x)) (sym e);
    }

-- ---- from the call's promise

record Got (s : List ℕ) (offset count kinds payloads n : ℕ) : Type 0 where
  kinds_room : count ≤ kinds
  payloads_room : count ≤ payloads
  last : Run
  end : Cursor
  read : after count s (cursor_at offset) ≡ got last end
  start : offset < length s
  used : end.at - offset ≡ n

used-got : (offset n : ℕ) (o : Outcome Run) → used_of offset o ≡ gives n → (u : Run) × (m : Cursor) × (o ≡ got u m) × (m.at - offset ≡ n)
used-got offset n (got u m) e = (u, m, refl, cc)
used-got offset n (refused r m) e = absurd (not_given e)

accepted : (s : List ℕ) (offset count kinds payloads n : ℕ) → (count ≡ 0 → ⊥) → series_answer s offset count kinds payloads ≡ gives n
    → Got s offset count kinds payloads n
unfolding series_answer choose
accepted s offset count kinds payloads n some e =
    let a = reached limit (length s) _ _ not_given e in
    let b = past_none (eqb count 0) _ n (ne_eqb _ _ some) a.1 in
    let c = past not_given (leb (length s) offset) b in
    let d = reached kinds count _ _ not_given c.1 in
    let f = reached payloads count _ _ not_given d.1 in
    let g = used-got offset n (after count s (cursor_at offset)) f.1 in
    record {
      kinds_room = d.0;
      payloads_room = f.0;
      last = g.0;
      end = g.1;
      read = g.2;
      start = leb-false (length s) offset c.0;
      used = g.3;
    }

-- where a series stands whose last value was read, and one of none
some_ends : (s : List ℕ) (offset count kinds payloads n : ℕ) → (g : Got s offset count kinds payloads n) → g.end ≡ cursor_at (offset + n)
some_ends s offset count kinds payloads n g =
    let r = after_reach count s (cursor_at offset) g.last g.end (omega (arith, g.start)) g.read in
    let p : g.end.at ≡ offset + n = omega (arith, r.up, g.used) in
    ap cursor_at p

none_ends : (s : List ℕ) (offset n : ℕ) → n ≡ 0 → after 0 s (cursor_at offset) ≡ got (run_of 0 0) (cursor_at (offset + n))
unfolding after
none_ends s offset n e = let p : offset ≡ offset + n = omega (arith, e) in ap (λ (x : ℕ). got (run_of 0 0) (cursor_at x)) p

behind : (f : ℕ → ℕ) (n : ℕ) (t : List ℕ) → Behind n t (filled f n t)
unfolding entry_at
behind f n t = record { rest = filled_past f t n; long = filled_length f t n }

module _ (s : List ℕ) (offset count : ℕ) (ks ps : List ℕ) (n : ℕ) (ks' ps' : List ℕ) (v : ReadSeries s offset count ks ps (Ok n) ks' ps') where
  -- no values use no bytes
  pub series_none : count ≡ 0 → n ≡ 0
  series_none z = sym (used_none s offset count (length ks) (length ps) n (rw z) (sym v.says))

  -- the bytes used end where the last value does
  pub series_ends : (last : Run) × (after count s (cursor_at offset) ≡ got last (cursor_at (offset + n)))
  series_ends = by_count (eqb count 0) refl
    where
      by_count : (b : Bool) → eqb count 0 ≡ b → (last : Run) × (after count s (cursor_at offset) ≡ got last (cursor_at (offset + n)))
      by_count true q = let z : count ≡ 0 = eqb-true count 0 q in (run_of 0 0, rw z (none_ends s offset n (series_none z)))
      by_count false q =
          let a = accepted s offset count (length ks) (length ps) n (eqb-false count 0 q) (sym v.says) in
          (a.last, a.read ∙ ap (got a.last) (some_ends s offset count (length ks) (length ps) n a))

  -- kind and payload of value i
  pub series_value : (i : ℕ) → i < count → Value s (cursor_at offset) i (entry_at ks' i) (entry_at ps' i)
  series_value i h =
      let a = accepted s offset count (length ks) (length ps) n (λ z. omega arith) (sym v.says) in
      let t = apart v.leaves in
      let x = filled_at (kind_at s (cursor_at offset)) ks count i (omega (arith, a.kinds_room)) h in
      let y = filled_at (payload_at s (cursor_at offset)) ps count i (omega (arith, a.payloads_room)) h in
      rw (t.0, t.1, x, y) (value_at_lem (stepped count s (cursor_at offset) a.last a.end a.read i h))

  -- every word past them
  pub series_kinds : Behind count ks ks'
  series_kinds = rw (apart v.leaves).0 (behind (kind_at s (cursor_at offset)) count ks)

  pub series_payloads : Behind count ps ps'
  series_payloads = rw (apart v.leaves).1 (behind (payload_at s (cursor_at offset)) count ps)
