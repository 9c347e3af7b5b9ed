-- What the calls on patterns give, over the model's trees.
use Rattle.model.specs.lists.Syntax.{Position, PatternTree, var_pattern, bind_pattern, bool_pattern, int_pattern, prim_pattern, term_pattern, wildcard_pattern, and_pattern, macro_arg}

abbrev pub pattern_position : PatternTree → Position
pattern_position (var_pattern v p) = p
pattern_position (bind_pattern v q p) = p
pattern_position (bool_pattern b p) = p
pattern_position (int_pattern n p) = p
pattern_position (prim_pattern v p) = p
pattern_position (term_pattern s qs p) = p
pattern_position (wildcard_pattern p) = p
pattern_position (and_pattern qs p) = p
pattern_position (macro_arg n p) = p
