-- What the view of a pattern is, where its parts lie in a `Vec`.
use Rattle.std.proofs.Common.{◌≡◌, refl, ap, ◌∙◌, Vec}
use Rattle.std.specs.declared.alloc.Global.{Global}
use Rattle.core_types.specs.declared.ids.TypeId.{TypeId}
use Rattle.core_types.specs.declared.ids.TermId.{TermId}
use Rattle.model.specs.rules.Typed.{match_term, match_and, typed_pattern_and}
use Rattle.core_typed.specs.declared.patterns.Pattern.{Pattern, Term, And, Row_of-Pattern, end_of-Pattern, more_of-Pattern, items-the_row-Pattern}
use Rattle.core_typed.specs.declared.patterns.Pattern.TheBlock.{hidden-the_row-Pattern-0, items_hidden-the_row-Pattern-0}
use Rattle.core_typed.specs.PatternViews.{pattern_view, row_patterns, pattern_views, pattern_parts}

row_patterns-items : {m : _} (r : Row_of-Pattern m) → row_patterns r ≡ pattern_parts (pattern_views (items-the_row-Pattern m r))
row_patterns-items end_of-Pattern = refl
row_patterns-items (more_of-Pattern q qs) = ap (typed_pattern_and (pattern_view q)) (row_patterns-items qs)

pub row_patterns-hidden : (v : Vec Pattern Global) → row_patterns (hidden-the_row-Pattern-0 v) ≡ pattern_parts (pattern_views v.items)
row_patterns-hidden v = row_patterns-items (hidden-the_row-Pattern-0 v) ∙ ap (λ qs. pattern_parts (pattern_views qs)) (items_hidden-the_row-Pattern-0 v)

pub view-Term : (ty : TypeId) (t : TermId) (v : Vec Pattern Global) → pattern_view (Term ty t v) ≡ match_term ty.0 t.0 (pattern_parts (pattern_views v.items))
view-Term ty t v = ap (match_term ty.0 t.0) (row_patterns-hidden v)

pub view-And : (ty : TypeId) (v : Vec Pattern Global) → pattern_view (And ty v) ≡ match_and ty.0 (pattern_parts (pattern_views v.items))
view-And ty v = ap (match_and ty.0) (row_patterns-hidden v)

-- for code that makes patterns
pub ruleset pattern_steps = (row_patterns-hidden, view-Term, view-And)
