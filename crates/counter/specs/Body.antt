-- The body of a class, by its place: what `class_body` asks, and what the body's mark says. Assumes nothing.
use Rattle.std.specs.Prelude.{◌≡◌, List, [], ◌∷◌, ℕ, ◌+◌, ◌-◌, ◌<◌, length, get_or}
use Rattle.std.proofs.Common.{ap, subst, sym, ◌∙◌}
use Rattle.words.specs.Word.{bit0}
use Rattle.records.specs.Ends.{Ends, blank}
use Rattle.records.specs.declared.Note.{Note}
use Rattle.records.specs.Place.{records_at, label_at, arity_at, kids_at, end_of}
use Rattle.grammar.specs.Grammar.{module'}
use Rattle.grammar.specs.WellFormed.{Fits}
use Rattle.rewriting.specs.Parts.{is_decorated_member, elements_of}
use Rattle.inspect.specs.Row.{any_row}
use Rattle.walk_laws.specs.ClassPlaces.{class_marked, class_heritage, class_body}
use Rattle.counter.specs.Contract.{Planned}

module _ (ws : List ℕ) (whole : Fits (module' ∷ []) (records_at ws 0)) (at : ℕ) (h : at < length ws) (kind : (label_at ws at).kind ≡ 26) where
  pub body_asks : {notes : List Note} → Ends ws notes 0 →
      Ends ws notes 0 × ((label_at ws at).kind ≡ 26) × (at + 1 < length ws) × (end_of ws (at + 1) (1 + bit0 (label_at ws at).payload) ≡ end_of ws (at + 1) 1 + bit0 (label_at ws at).payload) ×
      (end_of ws (at + 1) (1 + bit0 (label_at ws at).payload) < length ws)
  body_asks e = (e, kind, (class_marked ws whole at h kind).place, (class_heritage ws whole at h kind).0, (class_heritage ws whole at h kind).1)

  module _ {b : ℕ} (e : b ≡ end_of ws (at + 1) (arity_at ws at - 1)) where
    pub body_inside : b < length ws
    body_inside = subst (λ (q : ℕ). q < length ws) (sym e) (class_body ws whole at h kind).0

    pub body_kind : (label_at ws b).kind ≡ 29
    body_kind = ap (λ (q : ℕ). (label_at ws q).kind) e ∙ (class_body ws whole at h kind).1

    pub body_kids : kids_at ws b ≡ elements_of (kids_at ws at)
    body_kids = ap (kids_at ws) e ∙ (class_body ws whole at h kind).2

    pub body_mark : {notes : List Note} → Planned ws notes → (get_or notes b blank).marked ≡ any_row is_decorated_member (elements_of (kids_at ws at))
    body_mark p = p.bodies b body_inside body_kind ∙ ap (any_row is_decorated_member) body_kids
