-- Forms as they are read, without where they lie in memory.
use Rattle.std.specs.Prelude.{Bool, false, List, [], ◌∷◌}
use Rattle.core_syntax.specs.SyntaxViews.{position, name_view}
use Rattle.text_reader.specs.declared.forms.TextForm as F
use Rattle.text_reader.specs.declared.forms.TextForm.{TextForm, Row_of-TextForm, end_of-TextForm, more_of-TextForm}
use Rattle.text_reader.specs.declared.forms.Open.{Open}
use Rattle.text_reader.specs.declared.forms.Open.TheVariants as V
use Rattle.text_reader.specs.FormTrees.{FormTree, a_word, a_number, a_constant, a_binding, a_list, FormTrees, no_form, form_and}
use Rattle.text_reader.specs.declared.parts.Parts.{Parts}
use Rattle.text_reader.specs.Grammar.{Listed, listed}
use Rattle.text_reader.specs.Forming.{Begun, a_group, a_binder, passes_begun}

abbrev mutual
  pub form_view : TextForm → FormTree
  form_view (F.Word i) = a_word (name_view i)
  form_view (F.Number z p) = a_number z (position p)
  form_view (F.Constant i p) = a_constant (name_view i) (position p)
  form_view (F.Bound' i b f) = a_binding (name_view i) (form_view f)
  form_view (F.Group' shape fs p e) = a_list (row_view fs) (position p) (position e)

  pub row_view : {m : _} → Row_of-TextForm m → FormTrees
  row_view end_of-TextForm = no_form
  row_view (more_of-TextForm f fs) = form_and (form_view f) (row_view fs)

abbrev pub all_view : List TextForm → FormTrees
all_view [] = no_form
all_view (f ∷ fs) = form_and (form_view f) (all_view fs)

-- what is begun
abbrev pub open_view : Open → Begun
open_view (V.Group fs p) = a_group (all_view fs.items) (position p)
open_view (V.Binder i) = a_binder (name_view i)

-- what is begun, the innermost first, before what was begun earlier
abbrev pub stacked : List Open → List Begun → List Begun
stacked [] under = under
stacked (o ∷ os) under = stacked os (open_view o ∷ under)

abbrev pub begun_views : List Open → List Begun
begun_views os = stacked os []

-- whether the outermost form that is begun is a list that is passed over
abbrev pub outermost_passes : List Open → Bool
outermost_passes [] = false
outermost_passes (o ∷ os) = passes_begun (open_view o)

-- the list that is left
abbrev pub parts_view : Parts → Listed
parts_view l = listed (all_view l.forms.now) (position l.pos) (position l.end)
