-- Where lines stand.
use Rattle.model_code.specs.Pieces as P
use Rattle.rust_text.specs.declared.layout.Margin.{Margin}

abbrev pub margin_view : Margin → P.Margin
margin_view at = record { depth = at.depth; label = at.label }
