-- What a term is, where its entry is read.
use Rattle.std.proofs.Common.{◌≡◌, ℕ, Bool, ◌<◌, ◌≤◌, List, Option, Some, None, length, get_or, map, option_map, slice_get, sym, ap, subst, ◌∙◌}
use Rattle.std.proofs.lemmas.Option.{slice_get-get_or, slice_get-map, slice_get_past}
use Rattle.core_syntax.specs.SyntaxViews.{position}
use Rattle.core_types.specs.declared.ids.VariantId.{VariantId}
use Rattle.core_terms.specs.declared.term.ConstructorKind.{ConstructorKind}
use Rattle.core_terms.specs.declared.term.ExtractorKind.{ExtractorKind}
use Rattle.core_terms.specs.declared.term.TermFlags.{TermFlags}
use Rattle.core_terms.specs.declared.term.TermKind.{TermKind}
use Rattle.core_terms.specs.declared.term.TermKind.TheVariants as K
use Rattle.core_terms.specs.declared.term.Term.{Term}
use Rattle.core_terms.specs.TermViews.{extractor_view, flags_view, kind_view, term_view}
use Rattle.model.specs.lists.Tables.{TermEntry}
use Rattle.model.specs.rules.Program.{Kind, a_variant, a_struct, a_call, unknown, always_answers, kind_of, kind}
use Rattle.run_terms.specs.SourceViews.{of_terms}

abbrev of_entry : Option TermEntry → Kind
of_entry o = elim o [ None ↦ unknown | Some e ↦ kind_of e ]

pub known : (ts : List Term) (i t : ℕ) (e : Term) → i ≡ t → i < length ts → e ≡ get_or ts i e → kind (of_terms ts) t ≡ kind_of (term_view e)
known ts i t e same h at = subst (λ n. kind (of_terms ts) n ≡ kind_of (term_view e)) same (ap of_entry (slice_get-map term_view ts i ∙ ap (option_map term_view) (slice_get-get_or ts i e h ∙ ap Some (sym at))))

pub not_known : (ts : List Term) (i t : ℕ) → i ≡ t → length ts ≤ i → kind (of_terms ts) t ≡ unknown
not_known ts i t same h = subst (λ n. kind (of_terms ts) n ≡ unknown) same (ap of_entry (slice_get-map term_view ts i ∙ ap (option_map term_view) (slice_get_past ts i h)))

abbrev with_kind : Term → TermKind → Kind
with_kind e k = kind_of (record { id = e.id.0; at = position e.decl_pos; name = e.name.0; arg_tys = map (λ ty. ty.0) e.arg_tys.items; ret_ty = e.ret_ty.0; kind = kind_view k })

pub variant_entry : (e : Term) (v : VariantId) → e.kind ≡ K.EnumVariant v → kind_of (term_view e) ≡ a_variant e.ret_ty.0 v.0
variant_entry e v h = ap (with_kind e) h

pub struct_entry : (e : Term) → e.kind ≡ K.Struct → kind_of (term_view e) ≡ a_struct e.ret_ty.0
struct_entry e h = ap (with_kind e) h

pub call_entry : (e : Term) (flags : TermFlags) (ck : Option ConstructorKind) (ek : Option ExtractorKind) → e.kind ≡ K.Decl flags ck ek → kind_of (term_view e) ≡ a_call (flags_view flags) (always_answers (flags_view flags) (option_map extractor_view ek))
call_entry e flags ck ek h = ap (with_kind e) h
