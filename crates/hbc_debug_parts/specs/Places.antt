-- docs/FORMAT.md, section 7.1: the three kinds of place, and how one is had from another.
use Rattle.std.specs.Prelude.{◌+◌}
use Rattle.hbc_debug_parts.specs.declared.InFile.{InFile}
use Rattle.hbc_debug_parts.specs.declared.InSection.{InSection}
use Rattle.hbc_debug_parts.specs.declared.InData.{InData}

-- a place of the section that begins there, in the file
abbrev pub in_file : InFile → InSection → InFile
in_file section at = record { 0 = section.0 + at.0 }

-- a place of the debug data that begins there, in the section
abbrev pub in_section : InSection → InData → InSection
in_section blob at = record { 0 = blob.0 + at.0 }
