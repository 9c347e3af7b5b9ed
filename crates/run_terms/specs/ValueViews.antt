-- What values say, without where their parts lie in memory: each as a value of the model.
use Rattle.std.specs.Prelude.{List, [], ◌∷◌}
use Rattle.model.specs.rules.Values as Values
use Rattle.model.specs.rules.Values.{truth, atom, of_variant, of_struct, Values, no_value, value_and}
use Rattle.model.specs.rules.Meaning as M
use Rattle.run_terms.specs.declared.values.Content as C
use Rattle.run_terms.specs.declared.values.Content.{Content, Row_of-Content, end_of-Content, more_of-Content}
use Rattle.run_terms.specs.declared.values.Value as V
use Rattle.run_terms.specs.declared.values.Value.{Value, Row_of-Value, end_of-Value, more_of-Value}

abbrev mutual
  pub value_view : Value → Values.Value
  value_view (V.Truth b) = truth b
  value_view (V.Atom ty n) = atom ty.0 n
  value_view (V.Variant' ty variant shape vs) = of_variant ty.0 variant.0 (row_values vs)
  value_view (V.Struct' ty shape vs) = of_struct ty.0 (row_values vs)

  pub row_values : {m : _} → Row_of-Value m → Values
  row_values end_of-Value = no_value
  row_values (more_of-Value v vs) = value_and (value_view v) (row_values vs)

-- the values of a list
abbrev pub value_views : List Value → Values
value_views [] = no_value
value_views (v ∷ vs) = value_and (value_view v) (value_views vs)

-- what sites hold
abbrev mutual
  pub content_view : Content → M.Content
  content_view (C.One v) = M.one (value_view v)
  content_view (C.Parts vs) = M.parts (value_views vs.items)
  content_view C.Nothing = M.nothing
  content_view (C.Just' b c) = M.just (content_view c)
  content_view (C.Many' shape cs) = M.many (row_contents cs)

  pub row_contents : {m : _} → Row_of-Content m → M.Contents
  row_contents end_of-Content = M.no_content
  row_contents (more_of-Content c cs) = M.content_and (content_view c) (row_contents cs)

-- the contents of a list
abbrev pub content_views : List Content → M.Contents
content_views [] = M.no_content
content_views (c ∷ cs) = M.content_and (content_view c) (content_views cs)
