-- Where a let's definition has each position inside a text.
use Rattle.std.specs.Prelude.{ℕ, [], ◌∷◌}
use Rattle.core_syntax.specs.declared.syntax.LetDef.{LetDef}
use Rattle.core_syntax.specs.SyntaxViews.{let_views}
use Rattle.text_reader.specs.Within.{LetsAreWithin}

abbrev pub LetIsWithin : (file size : ℕ) → LetDef → Type 0
LetIsWithin file size d = LetsAreWithin file size (let_views (d ∷ []))
