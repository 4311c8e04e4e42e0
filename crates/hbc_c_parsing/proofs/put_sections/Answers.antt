use Rattle.hbc_c_parsing.proofs.put_sections.Goals as goal

pub returns : goal.returns
returns c = rw (c.put_section-4.ensures, c.put_sources.ensures, c.put_section-3.ensures, c.put_section-2.ensures, c.put_section.ensures)
