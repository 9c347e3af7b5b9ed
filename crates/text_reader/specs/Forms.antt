-- Which forms have each position inside a text.
use Rattle.std.specs.Prelude.{ℕ, List, All, ⊤}
use Rattle.core_syntax.specs.declared.syntax.Pos.{Pos}
use Rattle.core_syntax.specs.declared.syntax.Ident.{Ident}
use Rattle.core_syntax.specs.SyntaxViews.{position, name_view}
use Rattle.text_reader.specs.declared.forms.TextForm as F
use Rattle.text_reader.specs.declared.forms.TextForm.{TextForm, Row_of-TextForm, end_of-TextForm, more_of-TextForm}
use Rattle.text_reader.specs.declared.forms.Open as O
use Rattle.text_reader.specs.declared.forms.Open.TheVariants as V
use Rattle.text_reader.specs.Within.{PositionIsWithin, NameIsWithin}

abbrev pub IdentIsWithin : (file size : ℕ) → Ident → Type 0
IdentIsWithin file size i = NameIsWithin file size (name_view i)

abbrev pub PosIsWithin : (file size : ℕ) → Pos → Type 0
PosIsWithin file size p = PositionIsWithin file size (position p)

abbrev mutual
  pub FormIsWithin : (file size : ℕ) → TextForm → Type 0
  FormIsWithin file size (F.Word i) = IdentIsWithin file size i
  FormIsWithin file size (F.Number z p) = PosIsWithin file size p
  FormIsWithin file size (F.Constant i p) = IdentIsWithin file size i × PosIsWithin file size p
  FormIsWithin file size (F.Bound' i b f) = IdentIsWithin file size i × FormIsWithin file size f
  FormIsWithin file size (F.Group' shape fs p e) = RowIsWithin file size fs × PosIsWithin file size p × PosIsWithin file size e

  pub RowIsWithin : (file size : ℕ) {m : _} → Row_of-TextForm m → Type 0
  RowIsWithin file size end_of-TextForm = ⊤
  RowIsWithin file size (more_of-TextForm f fs) = FormIsWithin file size f × RowIsWithin file size fs

abbrev pub FormsAreWithin : (file size : ℕ) → List TextForm → Type 0
FormsAreWithin file size fs = All (FormIsWithin file size) fs

abbrev pub OpenIsWithin : (file size : ℕ) → O.Open → Type 0
OpenIsWithin file size (V.Group fs p) = FormsAreWithin file size fs.items × PosIsWithin file size p
OpenIsWithin file size (V.Binder i) = IdentIsWithin file size i

abbrev pub OpensAreWithin : (file size : ℕ) → List O.Open → Type 0
OpensAreWithin file size os = All (OpenIsWithin file size) os

abbrev pub IdentsAreWithin : (file size : ℕ) → List Ident → Type 0
IdentsAreWithin file size is = All (IdentIsWithin file size) is
