-- Forms that are begun, and one more.
use Rattle.std.proofs.Common.{◌≡◌, ℕ, ◌+◌, ◌<◌, ◌≤◌, List, [], ◌∷◌, ◌++◌, length, refl, sym, ap, ◌∙◌, Vec, arith}
use Rattle.std.specs.Prelude.{Option, Some, option_to_list, Ok, Err}
use Rattle.std.proofs.lemmas.Bool.Decides.{nat_tests}
use Rattle.std.specs.declared.alloc.Global.{Global}
use Rattle.std.proofs.lemmas.Grind.{common_steps}
use Rattle.model.specs.lists.Syntax.{Position}
use Rattle.core_syntax.specs.SyntaxViews.{position}
use Rattle.core_syntax.specs.declared.syntax.Ident.{Ident}
use Rattle.core_syntax.specs.declared.syntax.Pos.{Pos}
use Rattle.text_reader.specs.declared.errors.Mistake.TheVariants as M
use Rattle.text_reader.specs.declared.forms.TextForm.{TextForm, Group, Row_of-TextForm, end_of-TextForm, more_of-TextForm, items-the_row-TextForm}
use Rattle.text_reader.specs.declared.forms.TextForm.TheBlock.{hidden-the_row-TextForm-0, items_hidden-the_row-TextForm-0}
use Rattle.text_reader.specs.declared.forms.Open.{Open}
use Rattle.text_reader.specs.declared.forms.Open.TheVariants as V
use Rattle.text_reader.specs.FormTrees.{FormTrees, form_and}
use Rattle.text_reader.specs.FormViews.{form_view, row_view, all_view, open_view, stacked, begun_views, outermost_passes}
use Rattle.text_reader.specs.Forming.{Begun, a_group, behind, put, passes, started, ended, whole}
use Rattle.text_reader.specs.Grammar.{no}
use Rattle.text_reader.specs.Lexemes.{unclosed}

pub stack_pushed : (old new : List Open) (o : Open) → new ≡ old ++ o ∷ [] → begun_views new ≡ open_view o ∷ begun_views old
stack_pushed old new o e = ap begun_views e ∙ at_end old []
  where
    at_end : (os : List Open) (under : List Begun) → stacked (os ++ o ∷ []) under ≡ open_view o ∷ stacked os under
    at_end [] under = refl
    at_end (x ∷ os) under = at_end os (open_view x ∷ under)

pub forms_pushed : (old new : List TextForm) (f : TextForm) → new ≡ old ++ f ∷ [] → all_view new ≡ behind (all_view old) (form_view f)
forms_pushed old new f e = ap all_view e ∙ at_end old
  where
    at_end : (fs : List TextForm) → all_view (fs ++ f ∷ []) ≡ behind (all_view fs) (form_view f)
    at_end [] = refl
    at_end (x ∷ fs) = ap (form_and (form_view x)) (at_end fs)

row_items : {m : _} (r : Row_of-TextForm m) → row_view r ≡ all_view (items-the_row-TextForm m r)
row_items end_of-TextForm = refl
row_items (more_of-TextForm f fs) = ap (form_and (form_view f)) (row_items fs)

pub row_hidden : (v : Vec TextForm Global) → row_view (hidden-the_row-TextForm-0 v) ≡ all_view v.items
row_hidden v = row_items (hidden-the_row-TextForm-0 v) ∙ ap all_view (items_hidden-the_row-TextForm-0 v)

-- how much is begun
begun_count : (os : List Open) (under : List Begun) → length (stacked os under) ≡ length os + length under
begun_count [] under = omega arith
begun_count (o ∷ os) under = omega (arith, begun_count os (open_view o ∷ under))

pub too_deep : (old : List Open) (o : Begun) (p : Position) (fs : FormTrees) → 1000 ≤ length old → started o p fs (begun_views old) ≡ no M.Depth p
too_deep old o p fs deep = grind (arith, common_steps, begun_count, nat_tests)

pub not_deep : (old new : List Open) (o : Open) (p : Position) (fs : FormTrees) → length old < 1000 → new ≡ old ++ o ∷ [] → started (open_view o) p fs (begun_views old) ≡ Ok (fs, begun_views new)
not_deep old new o p fs room e = grind (arith, common_steps, begun_count, nat_tests, stack_pushed)

-- the outermost that is begun
passes_under : (os : List Open) (o : Begun) (under : List Begun) → passes (stacked os (o ∷ under)) ≡ passes (o ∷ under)
passes_under [] o under = refl
passes_under (x ∷ os) o under = passes_under os (open_view x) (o ∷ under)

pub outermost : (os : List Open) → outermost_passes os ≡ passes (begun_views os)
outermost os = grind (arith, common_steps, passes_under)

-- what was begun last
last_begun : (old new : List Open) (r : Option Open) (o : Open) → old ≡ new ++ option_to_list r → r ≡ Some o → begun_views old ≡ open_view o ∷ begun_views new
last_begun old new r o e is = stack_pushed new old o (e ∙ ap (λ x. new ++ option_to_list x) is)

pub ended_binder : (old new : List Open) (r : Option Open) (i : Ident) (p : Position) (fs : FormTrees) → old ≡ new ++ option_to_list r → r ≡ Some (V.Binder i) → ended p fs (begun_views old) ≡ no M.BoundPattern p
ended_binder old new r i p fs e is = ap (ended p fs) (last_begun old new r (V.Binder i) e is)

pub whole_binder : (file end : ℕ) (old new : List Open) (r : Option Open) (i : Ident) (fs : FormTrees) → old ≡ new ++ option_to_list r → r ≡ Some (V.Binder i) → whole file end fs (begun_views old) ≡ no M.BoundPattern (position i.1)
whole_binder file end old new r i fs e is = ap (whole file end fs) (last_begun old new r (V.Binder i) e is)

pub whole_group : (file end : ℕ) (old new : List Open) (r : Option Open) (v : Vec TextForm Global) (p : Pos) (fs : FormTrees) → old ≡ new ++ option_to_list r → r ≡ Some (V.Group v p)
    → whole file end fs (begun_views old) ≡ Err (unclosed (position p), record { file = file; offset = end })
whole_group file end old new r v p fs e is = ap (whole file end fs) (last_begun old new r (V.Group v p) e is)

-- a form goes into the list that was begun last
pub put_into : (old new after_it : List Open) (parts more : Vec TextForm Global) (pos : Pos) (f : TextForm) (fs : FormTrees) → old ≡ new ++ V.Group parts pos ∷ [] → more.items ≡ parts.items ++ f ∷ [] → after_it ≡ new ++ V.Group more pos ∷ []
    → put (form_view f) fs (begun_views old) ≡ (fs, begun_views after_it)
put_into old new after_it parts more pos f fs o m n =
    ap (put (form_view f) fs) (stack_pushed new old (V.Group parts pos) o)
    ∙ ap (λ gs. (fs, a_group gs (position pos) ∷ begun_views new)) (sym (forms_pushed parts.items more.items f m))
    ∙ ap (λ os. (fs, os)) (sym (stack_pushed new after_it (V.Group more pos) n))

-- the list that was begun last ends
pub closed : (old new : List Open) (parts : Vec TextForm Global) (pos end : Pos) (fs : FormTrees) → old ≡ new ++ V.Group parts pos ∷ []
    → Ok (put (form_view (Group parts pos end)) fs (begun_views new)) ≡ ended (position end) fs (begun_views old)
closed old new parts pos end fs o = grind (arith, common_steps, row_hidden, stack_pushed)

pub ruleset stack_parts = (stack_pushed, too_deep, not_deep)

pub ruleset end_parts = (ended_binder, whole_binder, whole_group)
