-- The layout that is asked of `fmt`.
use Rattle.std.specs.Prelude.{Option, None, Some}
use Rattle.text_writer.specs.declared.lists.Indentation.{Indentation}
use Rattle.text_writer.specs.declared.lists.Indentation.TheVariants.{UnderPart}

-- where lines begin: as usual, if nothing is said
abbrev pub indentation_asked : Option Indentation → Indentation
indentation_asked None = UnderPart
indentation_asked (Some indentation) = indentation
