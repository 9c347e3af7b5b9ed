-- The flags of a declaration.
use Rattle.text_reader.specs.declared.terms.Flags.{Flags}
use Rattle.text_reader.specs.TermGrammar.{FlagSet}

abbrev pub flags_view : Flags → FlagSet
flags_view f = record { is_pure = f.pure; is_multi = f.multi; is_partial = f.partial; is_rec = f.rec }
