-- docs/FORMAT.md, section 1.4: what a refused call leaves; section 7.6: what an accepted read leaves past its rows.
use Rattle.std.specs.Prelude.{◌≡◌, List, ℕ, ◌*◌, Err}
use Rattle.hbc_io.specs.declared.Refusal.{Refusal}
use Rattle.hbc_debug_parts.specs.declared.InFile.{InFile}
use Rattle.hbc_debug_strings.specs.Strings.{string_width, WriteStrings}
use Rattle.hbc_debug_scopes.specs.declared.ScopeCounts.{ScopeCounts}
use Rattle.hbc_debug_scopes.specs.Scopes.{scope_width, WriteScopes}
use Rattle.hbc_debug_callees.specs.Callees.{callee_width, WriteCallees}
use Rattle.hbc_debug.specs.Debug.{Tables, ReadDebug}
use Rattle.hbc_debug.specs.declared.Counts.{Counts}
use Rattle.hbc_claims_law.specs.Terms.{Behind}

-- the words that a call was lent and does not write
pub record Left : Type 0 where
  -- a refused read of the section: every word of the four tables
  pub tables : (file : List ℕ) (offset : ℕ) (before after : Tables) (k : Refusal) → ReadDebug file offset before (Err k) after → after ≡ before
  -- a refused write of one list: every word of its table, or of its two
  pub strings : (s : List ℕ) (base : InFile) (count : ℕ) (t t' : List ℕ) (k : Refusal) → WriteStrings s base count t (Err k) t' → t' ≡ t
  pub scopes : (s : List ℕ) (strings : ℕ) (counts : ScopeCounts) (t t' : List ℕ × List ℕ) (k : Refusal)
      → WriteScopes s strings counts t (Err k) t' → t' ≡ t
  pub callees : (s : List ℕ) (strings count : ℕ) (t t' : List ℕ) (k : Refusal) → WriteCallees s strings count t (Err k) t' → t' ≡ t

-- the words past the rows of each table, of which there are so many; a name is one word
pub record PastRows (k : Counts) (t t' : Tables) : Type 0 where
  pub strings : Behind (k.strings * string_width) t.strings t'.strings
  pub scopes : Behind (k.scopes * scope_width) t.scopes t'.scopes
  pub names : Behind k.names t.names t'.names
  pub callees : Behind (k.callees * callee_width) t.callees t'.callees
