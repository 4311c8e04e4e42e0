-- The sections lie as specs/Laid says.
use Prim.Native.Nat.{ℕ, ◌+◌, ◌-◌, ◌*◌, ◌≤◌}
use mathlib.Core.Path.{◌≡◌, refl, ap, sym, ◌∙◌}
use mathlib.Core.List.{List}
use mathlib.Core.Bool.{Bool, true, false}
use native.Mathlib.Omega.{arith}
use lib.ListN.{length}
use lib.Dec.{ltb}
use Rattle.hbc_io.specs.Outcome.{got, cursor_at, refusal, left, limit}
use Rattle.hbc_io.specs.Plain.{bytes_at, align_to, seek_to}
use Rattle.hbc_io.specs.declared.Cursor.{Cursor}
use Rattle.hbc_io.proofs.Reading.{past_test, same_got, then_got, valued_got}
use Rattle.hbc_io.proofs.Plains.{bytes_got}
use Rattle.hbc_io.proofs.Aligns.{aligned}
use Rattle.hbc_parsing_sections.specs.declared.Section.{Section}
use Rattle.std.specs.Prelude.{Option, Some, None}
use Rattle.hbc_parsing_sections.specs.declared.Sections.{Sections}
use Rattle.hbc_parsing_sections.specs.Laid.{There, Between, SourcesThere, Laid}
use Rattle.hbc_parsing_sections.specs.Sections.{section, section_at, pairs_at, sources_at, sections_from, sections_at}
use Rattle.hbc_parsing_sections.proofs.Laws.{section_on}

-- ---- one section

record Lies (s : List ℕ) (bytes entries : ℕ) (c : Cursor) (p : Section) (next : Cursor) : Type 0 where
  starts : p.start ≡ c.at
  ends : p.start + p.size ≡ next.at
  has : p.entries ≡ entries
  short : length s ≤ limit
  room : p.start + bytes ≤ length s
  inside : next.at ≤ length s

lies_at : (s : List ℕ) (bytes entries : ℕ) (c : Cursor) (p : Section) (next end : Cursor) → length s ≤ limit → c.at + bytes ≤ length s → c.at ≤ end.at → end.at ≤ length s
    → got (section c.at (end.at - c.at) entries) end ≡ got p next → Lies s bytes entries c p next
lies_at s bytes entries c p next end h r o i e =
    let z = same_got (section c.at (end.at - c.at) entries) p end next e in
    let x : c.at ≡ p.start = ap (λ (q : Section). q.start) z.0 in
    let y : end.at - c.at ≡ p.size = ap (λ (q : Section). q.size) z.0 in
    let n : end.at ≡ next.at = ap (λ (q : Cursor). q.at) z.1 in
    record { starts = sym x; ends = omega arith; has = sym (ap (λ (q : Section). q.entries) z.0); short = h; room = omega arith; inside = omega arith }

section_lies : (s : List ℕ) (bytes entries : ℕ) (c : Cursor) (p : Section) (next : Cursor) → section_at bytes entries s c ≡ got p next → Lies s bytes entries c p next
unfolding section_at
section_lies s bytes entries c p next e =
    let a = then_got (bytes_at bytes s c) _ p next e in
    let b = then_got (align_to s a.1 4) _ p next a.3 in
    let t = (bytes_got bytes s c a.0 a.1 a.2).1 in
    lies_at s bytes entries c p next b.1 t.short t.room
    (section_on bytes 4 s c a.1 b.1 a.0 a.2 b.2)
    (aligned 4 s a.1 b.1 b.2).1
    b.3

pairs_lie : (s : List ℕ) (count : ℕ) (c : Cursor) (p : Section) (next : Cursor) → pairs_at count s c ≡ got p next → Lies s (8 * count) count c p next
unfolding pairs_at
pairs_lie s count c p next e = section_lies s (8 * count) count c p next e

there : {s : List ℕ} {count : ℕ} {c : Cursor} {p : Section} {next : Cursor} → Lies s (8 * count) count c p next → There s p
there v = omega (arith, v.has, v.room)

record Sourced (s : List ℕ) (v : Option Section) (from to : ℕ) : Type 0 where
  lie : Between v from to
  fit : SourcesThere s v
  inside : from ≤ length s → to ≤ length s

sources_lie : (given : Bool) (s : List ℕ) (count : ℕ) (c : Cursor) (v : Option Section) (next : Cursor) → sources_at given count s c ≡ got v next → Sourced s v c.at next.at
unfolding sources_at
sources_lie true s count c v next e =
    let a = valued_got Some (pairs_at count s c) v next e in
    let l = pairs_lie s count c a.0 next a.1 in
    rw a.2 (record { lie = (l.starts, l.ends); fit = there l; inside = λ _. l.inside })
sources_lie false s count c v next e =
    let z = same_got None v c next e in
    rw (← z.0, ← z.1) (record { lie = refl; fit = tt; inside = λ h. h })

-- ---- all of them

from_laid : (regexps storage cjs : ℕ) (given : Bool) (sources : ℕ) (s : List ℕ) (c : Cursor) (v : Sections) (n : Cursor)
    → sections_from regexps storage cjs given sources s c ≡ got v n → Laid s c.at v
unfolding sections_from
from_laid regexps storage cjs given sources s c v n e =
    let a = then_got (pairs_at regexps s c) _ v n e in
    let b = then_got (section_at storage 0 s a.1) _ v n a.3 in
    let d = then_got (pairs_at cjs s b.1) _ v n b.3 in
    let u = then_got (sources_at given sources s d.1) _ v n d.3 in
    let la = pairs_lie s regexps c a.0 a.1 a.2 in
    let lb = section_lies s storage 0 a.1 b.0 b.1 b.2 in
    let ld = pairs_lie s cjs b.1 d.0 d.1 d.2 in
    let lu = sources_lie given s sources d.1 u.0 u.1 u.2 in
    let w : Sections = record { regexps = a.0; storage = b.0; cjs = d.0; sources = u.0; bytecode = section u.1.at (left s u.1) 0 } in
    let z : w ≡ v = (same_got w v u.1 n u.3).0 in
    let i : u.1.at ≤ length s = lu.inside ld.inside in
    rw (← z)
    (record {
      short = la.short;
      first = la.starts;
      second = lb.starts ∙ sym la.ends;
      third = ld.starts ∙ sym lb.ends;
      fourth = rw ld.ends lu.lie;
      last = omega arith;
      regexps_there = there la;
      cjs_there = there ld;
      sources_there = lu.fit;
    })

sought : (s : List ℕ) (c to : ℕ) (n : Cursor) → seek_to s (cursor_at c) to ≡ got tt n → n ≡ cursor_at to
unfolding seek_to
sought s c to n e =
    let p = past_test (ltb limit (length s)) (refusal 1) (cursor_at c) _ tt n e in
    let q = past_test (ltb (length s) to) (refusal 2) (cursor_at c) _ tt n p.1 in
    sym (same_got tt tt (cursor_at to) n q.1).1

pub laid : (start regexps storage cjs : ℕ) (given : Bool) (sources : ℕ) (s : List ℕ) (v : Sections) (n : Cursor)
    → sections_at start regexps storage cjs given sources s ≡ got v n → Laid s start v
unfolding sections_at
laid start regexps storage cjs given sources s v n e =
    let a = then_got (seek_to s (cursor_at 0) start) _ v n e in
    let z : a.1 ≡ cursor_at start = sought s 0 start a.1 a.2 in
    rw z at (from_laid regexps storage cjs given sources s a.1 v n a.3)
