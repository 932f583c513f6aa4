-- One law for each step of the walkers that write the report. Assumes nothing.
use Rattle.std.specs.Prelude.{◌≡◌, Bool, true, ◌&&◌, List, [], ◌∷◌, ◌++◌, ℕ, suc, ◌+◌, ◌-◌, ◌<◌, ◌≤◌, length, get_or, is_some}
use Rattle.records.specs.Ends.{blank}
use Rattle.records.specs.declared.Note.{Note}
use Rattle.std.proofs.Math.Path.{refl, ap}
use Rattle.std.proofs.Common.{sym, subst, ◌∙◌, true≢false, append-nil, arith}
use Rattle.std.proofs.Math.Bool.{false}
use Rattle.std.specs.declared.option.Option.{Option}
use Rattle.std.specs.declared.option.Option.TheVariants.{None as none, Some as some}
use Rattle.std.proofs.Math.Numerals.{add-one}
use Rattle.words.specs.Word.{word_of}
use Rattle.words.specs.Kinds.{named, number_other}
use Rattle.words.specs.declared.kinds.Kind.{Kind}
use Rattle.words.specs.declared.kinds.Kind.TheVariants.{ClassStatement, ClassExpression, Method, Property, AbstractAccessor}
use Rattle.records.specs.Forest.{take_f}
use Rattle.records.specs.Label.{Label, Trees, ◌∶◌, word_at, words, words_append}
use Rattle.records.specs.Place.{records_at, label_at, arity_at, kids_at, end_of}
use Rattle.output.specs.Overlay.{Wrote, wrote_none, wrote_then, wrote_as}
use Rattle.rewriting.specs.Parts.{elements_of, id_of, is_decorated, is_decorated_member, has_plain_key, is_live, class_kids}
use Rattle.rewriting.specs.Visit.{Default, Key, Inner, Alias, Result, class_symbol, named_symbols, visit, visit_one}
use Rattle.rewriting.specs.declared.Around.{Around}
use Rattle.rewriting.specs.declared.State.{State}
use Rattle.walk_laws.specs.Rows.{visit_at, fresh, kids_visit}
use Rattle.walk_laws.specs.After.{key_after, mentioned, alias_after, default_after, decorated_after, class_after}
use Rattle.walk_laws.specs.Roles.{role_4, role_20}
use Rattle.walk_laws.specs.Kinds.{is_element_kind, element_two, class_row_one, class_kids_lem}
use Rattle.counter.specs.Contract.{elements_from, Counts}
use Rattle.counter.specs.Steps.{counts_low, counts_high, counts_within, ready_behind, count_none, count_past, count_add, count_other, count_dropped, count_plain, count_member, count_expression, count_declared, count_live, kids_state, below_visit, below_kids, kids_one, arity_20, live_kids, id_kids, found, class_at, elements_at, dead_and, and_none, both_true}
use Rattle.report_walk.specs.declared.Role.TheVariants.{Other}
use Rattle.report_walk.specs.Contract.{HasRole, key_fresh, decorated_fresh, decorated_state, class_fresh, class_state, more, Takes, report_at, Asks, Reports}
use Rattle.report_walk.specs.Fresh.{report_length, report_none, report_past, report_add, report_one, words_expression, words_rest, member_fresh, words_element, words_dead, words_live}
use Rattle.report_walk.specs.declared.Walk.{Walk}

-- the walk one word further, and there in a class that has no default symbol yet; the walk r, behind a class, with the default symbol of w
abbrev pub inside : Walk → Walk
inside w = record { at = w.at + 1; pos = w.pos; state = w.state }

abbrev pub in_class : Walk → Walk
in_class w = record { at = w.at + 1; pos = w.pos; state = record { next = w.state.next; default = none } }

abbrev pub behind : Walk → Walk → Walk
behind w r = record { at = r.at; pos = r.pos; state = record { next = r.state.next; default = w.state.default } }

-- ---- bounds: the report grows with the counter

module _ {ws : List ℕ} {k : ℕ} {a : Around} {w r : Walk} {o o' : List ℕ} (c : Reports ws k a w o r o') where
  pub reports_pos : r.pos + w.state.next ≡ w.pos + r.state.next
  reports_pos =
      let t : (visit_at ws w.at k a w.state).after.next ≡ r.state.next = ap (λ (s : State). s.next) c.counts.state in
      omega (arith, c.wrote.end, report_length ws a w.at k w.state, t)

-- ---- what a walker may ask further on

module _ {ws : List ℕ} {notes : List Note} {w : Walk} (f : Asks ws notes w) where
  -- behind some records
  pub asks_behind : {k : ℕ} {a : Around} {r : Walk} {o o' : List ℕ} → Reports ws k a w o r o' → Asks ws notes r
  asks_behind c = record {
    ready = ready_behind f.ready c.counts;
    places = omega (arith, f.places, f.ready.inside, reports_pos c, counts_high c.counts, counts_within c.counts f.ready.inside);
  }

  -- behind a record's children there is room for two symbols
  pub room_behind : {k : ℕ} {a : Around} {d : Option ℕ} {r : Walk} {o o' : List ℕ} → w.at < length ws →
      Reports ws k a (record { at = w.at + 1; pos = w.pos; state = record { next = w.state.next; default = d } }) o r o' → (r.state.next + 2 < 67108864) × (r.pos + 2 < 67108864)
  room_behind h c =
      let i : w.at + 1 ≤ length ws = omega arith in
      let e = counts_within c.counts i in
      (omega (arith, f.ready.room, counts_high c.counts, e), omega (arith, f.places, reports_pos c, counts_high c.counts, counts_low c.counts, e))

-- ---- rows

-- the same records, counted otherwise
pub reports_count : {ws : List ℕ} {j k : ℕ} {a : Around} {w r : Walk} {o o' : List ℕ} → j ≡ k → Reports ws j a w o r o' → Reports ws k a w o r o'
reports_count {ws} {a = a} {w} {r} {o} {o'} e c = subst (λ (i : ℕ). Reports ws i a w o r o') e c

module _ (ws : List ℕ) (a : Around) (w : Walk) (o : List ℕ) where
  pub reports_none : Reports ws 0 a w o w o
  reports_none = record { counts = count_none ws w.at a w.state; wrote = wrote_as (sym (report_none ws a w.at w.state)) (wrote_none o w.pos) }

  pub reports_past : (k : ℕ) → length ws ≤ w.at → Reports ws k a w o w o
  reports_past k h = record { counts = count_past ws w.at a w.state k h; wrote = wrote_as (sym (report_past ws a w.at k w.state h)) (wrote_none o w.pos) }

-- some records, and then more
pub reports_add : {ws : List ℕ} {j k : ℕ} {a : Around} {w v r : Walk} {o o₁ o₂ : List ℕ} → Reports ws j a w o v o₁ → Reports ws k a v o₁ r o₂ → Reports ws (j + k) a w o r o₂
reports_add {ws} {j} {k} {a} {w} {v} x y = record {
  counts = count_add ws w.at a w.state j k v.at v.state x.counts y.counts;
  wrote = wrote_as (sym (
      report_add ws a w.at j k w.state
      ∙ ap (λ (s : State). report_at ws w.at j a w.state ++ report_at ws (end_of ws w.at j) k a s) x.counts.state
      ∙ ap (λ (i : ℕ). report_at ws w.at j a w.state ++ report_at ws i k a v.state) (sym x.counts.place)))
      (wrote_then x.wrote y.wrote);
}

-- all of k records: j, and then those that are left, behind the end
pub reports_rest : {ws : List ℕ} {a : Around} {w v : Walk} {o o₁ : List ℕ} (j k : ℕ) → j ≤ k → length ws ≤ v.at → Reports ws j a w o v o₁ → Reports ws k a w o v o₁
reports_rest {ws} {a} {w} {v} {o} {o₁} j k h e x =
    let s : j + (k - j) ≡ k = omega arith in reports_count s (reports_add x (reports_past ws a v o₁ (k - j) e))

-- one record, by the words it gives; q is where it ends
reports_one : {ws : List ℕ} {a : Around} {w r : Walk} {o o' : List ℕ} (q : ℕ) (xs : List ℕ) → w.at < length ws → r.at ≡ q → Counts ws w.at 1 a w.state (record { at = q; state = r.state }) →
    words (visit_one a (label_at ws w.at) (kids_at ws w.at) w.state).fresh ≡ xs → Wrote o w.pos xs o' r.pos → Reports ws 1 a w o r o'
reports_one {ws} {a} {w} q xs h p c e x = record {
  counts = record { place = p ∙ c.place; state = c.state };
  wrote = wrote_as (sym (report_one ws a w.at w.state h ∙ e)) x;
}

-- ---- symbols taken

pub takes_none : (w : Walk) (o : List ℕ) → Takes [] w.state w o w o
unfolding words
takes_none w o = record { place = refl; state = refl; wrote = wrote_none o w.pos }

-- one symbol, of the sort k
pub takes_put : (k : ℕ) {w : Walk} {v p : ℕ} {o o' : List ℕ} → v ≡ word_of k w.state.next → Wrote o w.pos (v ∷ []) o' p →
    Takes ((k ∶ w.state.next) ∷ []) (more w.state) w o (record { at = w.at; pos = p; state = more w.state }) o'
unfolding words word_at ◌∶◌
takes_put k e t = record { place = refl; state = refl; wrote = wrote_as (ap (λ (v : ℕ). v ∷ []) e) t }

pub takes_one : (k n : ℕ) {s : State} {w r : Walk} {o o' : List ℕ} → Takes ((k ∶ n) ∷ []) s w o r o' → r.pos ≡ w.pos + 1
unfolding words
takes_one k n t = t.wrote.end

takes_then : {xs ys : List Label} {s t : State} {w r v : Walk} {o o₁ o₂ : List ℕ} → Takes xs s w o r o₁ → Takes ys t r o₁ v o₂ → Takes (xs ++ ys) t w o v o₂
takes_then {xs} {ys} x y = record {
  place = y.place ∙ x.place;
  state = y.state;
  wrote = wrote_as (sym (words_append xs ys)) (wrote_then x.wrote y.wrote);
}

-- the same symbols and state
takes_as : {xs ys : List Label} {s t : State} {w r : Walk} {o o' : List ℕ} → xs ≡ ys → s ≡ t → Takes xs s w o r o' → Takes ys t w o r o'
takes_as {xs} {ys} {s} {t} e g x = record { place = x.place; state = x.state ∙ g; wrote = wrote_as (ap words e) x.wrote }

-- rule 4
module _ (i : Option ℕ) {w : Walk} {o : List ℕ} where
  pub symbol_id : is_some i ≡ true → Takes (class_symbol i w.state.default w.state).fresh (class_symbol i w.state.default w.state).after w o w o
  unfolding class_symbol
  symbol_id h = go i h
    where
      go : (j : Option ℕ) → is_some j ≡ true → Takes (class_symbol j w.state.default w.state).fresh (class_symbol j w.state.default w.state).after w o w o
      go none e = absurd (true≢false (sym e))
      go (some c) e = takes_none w o

  pub symbol_default : is_some w.state.default ≡ true → Takes (class_symbol i w.state.default w.state).fresh (class_symbol i w.state.default w.state).after w o w o
  unfolding class_symbol
  symbol_default h = go i w.state.default h
    where
      go : (j d : Option ℕ) → is_some d ≡ true → Takes (class_symbol j d w.state).fresh (class_symbol j d w.state).after w o w o
      go (some c) d e = takes_none w o
      go none none e = absurd (true≢false (sym e))
      go none (some c) e = takes_none w o

  pub symbol_put : {r : Walk} {o' : List ℕ} → is_some i ≡ false → is_some w.state.default ≡ false → Takes ((Default ∶ w.state.next) ∷ []) (more w.state) w o r o' →
      Takes (class_symbol i w.state.default w.state).fresh (class_symbol i w.state.default w.state).after w o
      (record { at = r.at; pos = r.pos; state = record { next = r.state.next; default = some w.state.next } }) o'
  unfolding class_symbol
  symbol_put {r} {o'} g h t = go i w.state.default g h
    where
      go : (j d : Option ℕ) → is_some j ≡ false → is_some d ≡ false → Takes (class_symbol j d w.state).fresh (class_symbol j d w.state).after w o
          (record { at = r.at; pos = r.pos; state = record { next = r.state.next; default = some w.state.next } }) o'
      go (some c) d e f = absurd (true≢false e)
      go none (some c) e f = absurd (true≢false f)
      go none none e f = record {
        place = t.place;
        state = ap (λ (s : State). record { next = s.next; default = some w.state.next }) t.state ∙ (rw (add-one w.state.next) refl);
        wrote = t.wrote;
      }

-- rule 5
module _ (b : Bool) {w : Walk} {o : List ℕ} where
  pub key_plain : b ≡ true → Takes (key_fresh b w.state.next) (key_after b w.state) w o w o
  unfolding key_fresh key_after
  key_plain e = rw e (takes_none w o)

  pub key_put : {r : Walk} {o' : List ℕ} → b ≡ false → Takes ((Key ∶ w.state.next) ∷ []) (more w.state) w o r o' → Takes (key_fresh b w.state.next) (key_after b w.state) w o r o'
  unfolding key_fresh key_after
  key_put {r} {o'} e t = rw (e, ← add-one w.state.next) t

-- rule 6
class_state_next : (b : Bool) (i : Option ℕ) (m : Bool) (s : State) → (class_state b i m s).next ≡ class_after b i m s
unfolding class_state class_after decorated_state decorated_after class_symbol named_symbols alias_after default_after
class_state_next false i m s = refl
class_state_next true (some c) true s = refl
class_state_next true (some c) false s = refl
class_state_next true none m s = go s.default
  where
    go : (d : Option ℕ) → (class_symbol none d s).after.next ≡ default_after d s.next
    go none = refl
    go (some c) = refl

-- x and y are the marks of the class, which says whether it is decorated, and of its statement, which says whether it takes an alias
module _ (x y : Bool) {b : Bool} (e : x ≡ b) (i : Option ℕ) {w : Walk} {o : List ℕ} where
  pub class_none : x ≡ false → Takes (class_fresh b i y w.state) (class_state b i y w.state) w o w o
  unfolding class_fresh class_state
  class_none f = rw (← e, f) (takes_none w o)

  pub class_default : {r : Walk} {o' : List ℕ} → x ≡ true → is_some i ≡ false →
      Takes (class_symbol i w.state.default w.state).fresh (class_symbol i w.state.default w.state).after w o r o' → Takes (class_fresh b i y w.state) (class_state b i y w.state) w o r o'
  unfolding class_fresh class_state decorated_fresh decorated_state
  class_default {r} {o'} f g t = rw (← e, f) (go i g t)
    where
      go : (j : Option ℕ) → is_some j ≡ false → Takes (class_symbol j w.state.default w.state).fresh (class_symbol j w.state.default w.state).after w o r o' →
          Takes (class_fresh true j y w.state) (class_state true j y w.state) w o r o'
      go (some c) e t = absurd (true≢false e)
      go none e t = t

  pub class_inner : {r : Walk} {o' : List ℕ} → x ≡ true → is_some i ≡ true → y ≡ false → Takes ((Inner ∶ w.state.next) ∷ []) (more w.state) w o r o' →
      Takes (class_fresh b i y w.state) (class_state b i y w.state) w o r o'
  unfolding class_fresh class_state decorated_fresh decorated_state named_symbols
  class_inner {r} {o'} f g n t = rw (← e, f, n) (go i g)
    where
      go : (j : Option ℕ) → is_some j ≡ true → Takes (class_fresh true j false w.state) (class_state true j false w.state) w o r o'
      go none e = absurd (true≢false (sym e))
      go (some c) e = rw (← add-one w.state.next) t

  pub class_alias : {r v : Walk} {o₁ o₂ : List ℕ} → x ≡ true → is_some i ≡ true → y ≡ true → Takes ((Inner ∶ w.state.next) ∷ []) (more w.state) w o r o₁ →
      Takes ((Alias ∶ r.state.next) ∷ []) (more r.state) r o₁ v o₂ → Takes (class_fresh b i y w.state) (class_state b i y w.state) w o v o₂
  unfolding class_fresh class_state decorated_fresh decorated_state named_symbols
  class_alias {r} {v} {o₁} {o₂} f g n t u = rw (← e, f, n) (go i g)
    where
      go : (j : Option ℕ) → is_some j ≡ true → Takes (class_fresh true j true w.state) (class_state true j true w.state) w o v o₂
      go none e = absurd (true≢false (sym e))
      go (some c) e =
          let m : r.state ≡ record { next = suc w.state.next; default = w.state.default } = t.state ∙ (rw (add-one w.state.next) refl) in
          takes_as (ap (λ (s : State). (Inner ∶ w.state.next) ∷ (Alias ∶ s.next) ∷ []) m) (ap more m ∙ (rw (add-one (suc w.state.next)) refl)) (takes_then t u)

-- a class takes one at most
few : (i d : Option ℕ) (s : State) → (length (words (class_symbol i d s).fresh) ≤ 1) × ((class_symbol i d s).after.next ≤ s.next + 1)
unfolding class_symbol words
few (some c) d s = (omega arith, omega arith)
few none (some d) s = (omega arith, omega arith)
few none none s = (omega arith, omega arith)

-- so there is room for one more, if there was for two
pub room_taken : (i : Option ℕ) {w r : Walk} {o o' : List ℕ} → (w.state.next + 2 < 67108864) × (w.pos + 2 < 67108864) →
    Takes (class_symbol i w.state.default w.state).fresh (class_symbol i w.state.default w.state).after w o r o' → (r.state.next < 67108864) × (r.pos < 67108864)
room_taken i {w} {r} h t =
    let m : r.state.next ≡ (class_symbol i w.state.default w.state).after.next = ap (λ (x : State). x.next) t.state in
    (omega (arith, h.0, m, (few i w.state.default w.state).1), omega (arith, h.1, t.wrote.end, (few i w.state.default w.state).0))

-- ---- records

-- a record whose answer is none of these kinds
pub role_other : {o : Option Kind} (n : ℕ) → o ≡ named n → (o ≡ some ClassStatement → ⊥) → (o ≡ some ClassExpression → ⊥) → (o ≡ some Method → ⊥) → (o ≡ some Property → ⊥) →
    (o ≡ some AbstractAccessor → ⊥) → HasRole Other n
role_other n e a b c d f = (number_other ClassStatement e a, number_other ClassExpression e b, number_other Method e c, number_other Property e d, number_other AbstractAccessor e f)

none_words : (xs : List ℕ) (p : Bool) (id : Option ℕ) (s : State) → (xs ++ words (member_fresh false p id s)) ≡ xs
unfolding member_fresh words
none_words xs p id s = append-nil xs

member_words_lem : (id : Option ℕ) (p : Bool) (s t : State) → t ≡ (class_symbol id s.default s).after →
    words (member_fresh true p id s) ≡ words (class_symbol id s.default s).fresh ++ words (key_fresh p t.next)
unfolding member_fresh
member_words_lem id p s t e = words_append _ _ ∙ ap (λ (x : State). words (class_symbol id s.default s).fresh ++ words (key_fresh p x.next)) (sym e)

module _ {ws : List ℕ} {notes : List Note} {w : Walk} (f : Asks ws notes w) (h : w.at < length ws) (a : Around) where
  kids_words : words (visit a (kids_at ws w.at) w.state).fresh ≡ report_at ws (w.at + 1) (arity_at ws w.at) a w.state
  unfolding report_at
  kids_words = ap (λ (r : Result). words r.fresh) (sym (kids_visit ws a w.at w.state))

  -- a record that does nothing of its own
  pub report_other : {r : Walk} {o o₁ : List ℕ} → ((label_at ws w.at).kind ≡ 4 → ⊥) → ((label_at ws w.at).kind ≡ 20 → ⊥) → ((label_at ws w.at).kind ≡ 30 → ⊥) → ((label_at ws w.at).kind ≡ 31 → ⊥) →
      ((label_at ws w.at).kind ≡ 32 → ⊥) → Reports ws (arity_at ws w.at) a (inside w) o r o₁ → Reports ws 1 a w o r o₁
  report_other a4 a20 a30 a31 a32 c =
      reports_one _ _ h refl (count_other f.ready h a w.state.default a4 a20 a30 a31 a32 c.counts)
      (words_rest a (label_at ws w.at) (kids_at ws w.at) w.state a4 a20 a30 a31 a32 ∙ kids_words) c.wrote

  -- ---- a method, constructor, property or accessor

  -- b: whether it queues a call
  element_words_lem : {r : Walk} {o o₁ : List ℕ} (b : Bool) → (a.live && is_decorated_member (label_at ws w.at) (kids_at ws w.at)) ≡ b → is_element_kind (label_at ws w.at).kind ≡ true →
      Reports ws (arity_at ws w.at) a (inside w) o r o₁ → words (visit_one a (label_at ws w.at) (kids_at ws w.at) w.state).fresh ≡
      report_at ws (w.at + 1) (arity_at ws w.at) a w.state ++ words (member_fresh b (has_plain_key (kids_at ws w.at)) a.id r.state)
  element_words_lem {r} b e k c =
      words_element a (label_at ws w.at) (kids_at ws w.at) w.state (element_two ws f.ready.whole w.at h k) k
      ∙ ap (λ (x : Bool). words (visit a (kids_at ws w.at) w.state).fresh ++ words (member_fresh x (has_plain_key (kids_at ws w.at)) a.id (visit a (kids_at ws w.at) w.state).after)) e
      ∙ ap (λ (s : State). words (visit a (kids_at ws w.at) w.state).fresh ++ words (member_fresh b (has_plain_key (kids_at ws w.at)) a.id s)) (kids_state f.ready h a w.state.default c.counts)
      ∙ ap (λ (xs : List ℕ). xs ++ words (member_fresh b (has_plain_key (kids_at ws w.at)) a.id r.state)) kids_words

  pub report_dropped : {r : Walk} {o o₁ : List ℕ} → is_element_kind (label_at ws w.at).kind ≡ true → a.live ≡ false → Reports ws (arity_at ws w.at) a (inside w) o r o₁ → Reports ws 1 a w o r o₁
  report_dropped k l c =
      reports_one _ _ h refl (count_dropped f.ready h a w.state.default k l c.counts)
      (element_words_lem false (dead_and a.live (is_decorated_member (label_at ws w.at) (kids_at ws w.at)) l) k c ∙ none_words _ _ _ _) c.wrote

  pub report_plain : {r : Walk} {o o₁ : List ℕ} → is_element_kind (label_at ws w.at).kind ≡ true → is_decorated_member (label_at ws w.at) (kids_at ws w.at) ≡ false →
      Reports ws (arity_at ws w.at) a (inside w) o r o₁ → Reports ws 1 a w o r o₁
  report_plain k m c =
      reports_one _ _ h refl (count_plain f.ready h a w.state.default k m c.counts)
      (element_words_lem false (and_none a.live (is_decorated_member (label_at ws w.at) (kids_at ws w.at)) m) k c ∙ none_words _ _ _ _) c.wrote

  -- r: behind its children; t: once the class has a symbol; v: once the member has a name
  pub report_member : {r t v : Walk} {o o₁ o₂ o₃ : List ℕ} → is_element_kind (label_at ws w.at).kind ≡ true → a.live ≡ true → is_decorated_member (label_at ws w.at) (kids_at ws w.at) ≡ true →
      Reports ws (arity_at ws w.at) a (inside w) o r o₁ →
      Takes (class_symbol a.id r.state.default r.state).fresh (class_symbol a.id r.state.default r.state).after r o₁ t o₂ →
      Takes (key_fresh (has_plain_key (kids_at ws w.at)) t.state.next) (key_after (has_plain_key (kids_at ws w.at)) t.state) t o₂ v o₃ →
      Reports ws 1 a w o v o₃
  report_member {r} {t} {v} k l b c x y =
      let p : Bool = has_plain_key (kids_at ws w.at) in
      reports_one _ _ h (y.place ∙ x.place)
      (count_member f.ready h a w.state.default v.state k l b c.counts (ap (key_after p) (sym x.state) ∙ sym y.state))
      (element_words_lem true (both_true a.live (is_decorated_member (label_at ws w.at) (kids_at ws w.at)) l b) k c
      ∙ ap (λ (xs : List ℕ). report_at ws (w.at + 1) (arity_at ws w.at) a w.state ++ xs) (member_words_lem a.id p r.state t.state x.state))
      (wrote_then c.wrote (wrote_then x.wrote y.wrote))

  -- ---- class expressions and class statements

  class_counts : {b : Around} {r : Walk} {o o₁ : List ℕ} → Reports ws 1 b (in_class w) o r o₁ → Counts ws (w.at + 1) 1 b (fresh w.state.next) (record { at = r.at; state = r.state })
  unfolding fresh
  class_counts c = c.counts

  -- the words of the class below
  below_words : (b : Around) → kids_at ws w.at ≡ take_f 1 (records_at ws (w.at + 1)) →
      words (visit b (kids_at ws w.at) (fresh w.state.next)).fresh ≡ report_at ws (w.at + 1) 1 b (record { next = w.state.next; default = none })
  unfolding report_at fresh
  below_words b k = ap (λ (r : Result). words r.fresh) (below_visit f.ready h a w.state.default b k)

  pub report_expression : {r : Walk} {o o₁ : List ℕ} → (label_at ws w.at).kind ≡ 20 → Reports ws 1 (record { live = false; id = none }) (in_class w) o r o₁ → Reports ws 1 a w o (behind w r) o₁
  report_expression k c =
      let one : arity_at ws w.at ≡ 1 = unfold arity_at in arity_20 f.ready h a w.state.default (label_at ws w.at) (records_at ws (w.at + 1)) k in
      reports_one _ _ h refl (count_expression f.ready h a w.state.default k (class_counts c))
      (words_expression a (label_at ws w.at) (kids_at ws w.at) w.state (role_20 (label_at ws w.at) k)
      ∙ below_words (record { live = false; id = none }) (kids_one f.ready h a w.state.default one)) c.wrote

  module _ (kind : (label_at ws w.at).kind ≡ 4) where
    -- the class around its children, by its id
    scope : (x : Bool) (b : Around) → b.live ≡ x → b.id ≡ id_of (kids_at ws (w.at + 1)) → record { live = x; id = id_of (class_kids (kids_at ws w.at)) } ≡ b
    scope x b l i = rw (l, i, id_kids f.ready h a w.state.default kind)

    -- a class that is declare
    pub report_declared : (b : Around) {r : Walk} {o o₁ : List ℕ} → b.live ≡ false → b.id ≡ id_of (kids_at ws (w.at + 1)) → is_live (take_f 1 (records_at ws (w.at + 1))) ≡ false →
        Reports ws 1 b (in_class w) o r o₁ → Reports ws 1 a w o (behind w r) o₁
    report_declared b l i v c =
        reports_one _ _ h refl (count_declared f.ready h a w.state.default kind b l i v (class_counts c))
        (words_dead a (label_at ws w.at) (kids_at ws w.at) w.state (role_4 (label_at ws w.at) kind) (live_kids f.ready h a w.state.default kind ∙ v)
        ∙ ap (λ (y : Around). words (visit y (kids_at ws w.at) (fresh w.state.next)).fresh) (scope false b l i)
        ∙ below_words b (class_row_one ws f.ready.whole w.at h kind)) c.wrote

    search : (x : Bool) → x ≡ is_decorated (kids_at ws (w.at + 1)) → is_live (take_f 1 (records_at ws (w.at + 1))) ≡ true → (t : State) →
        class_fresh x (id_of (kids_at ws (w.at + 1))) (mentioned (id_of (kids_at ws (w.at + 1))) (elements_from ws w.at w.state.next)) t ≡ class_fresh x (id_of (kids_at ws (w.at + 1))) (get_or notes w.at blank).marked t
    search true e v t = ap (λ (y : Bool). class_fresh true (id_of (kids_at ws (w.at + 1))) y t) (sym (found f.ready h a w.state.default kind (sym e) v))
    search false e v t = unfold class_fresh in refl

    -- a live class; v: once it has its symbols
    pub report_live : (b : Around) {r v : Walk} {o o₁ o₂ : List ℕ} → b.live ≡ true → b.id ≡ id_of (kids_at ws (w.at + 1)) → is_live (take_f 1 (records_at ws (w.at + 1))) ≡ true →
        Reports ws 1 b (in_class w) o r o₁ →
        Takes (class_fresh (is_decorated (kids_at ws (w.at + 1))) b.id (get_or notes w.at blank).marked r.state) (class_state (is_decorated (kids_at ws (w.at + 1))) b.id (get_or notes w.at blank).marked r.state) r o₁ v o₂ →
        Reports ws 1 a w o (behind w v) o₂
    report_live b {r} {v} l i g c x =
        let ck : Trees = kids_at ws (w.at + 1) in
        let kk : Trees = kids_at ws w.at in
        let n : ℕ = w.state.next in
        let sc : Around = record { live = true; id = id_of (class_kids kk) } in
        let row = class_row_one ws f.ready.whole w.at h kind in
        let below : List ℕ = report_at ws (w.at + 1) 1 b (record { next = n; default = none }) in
        reports_one _ _ h x.place
        (count_live f.ready h a w.state.default kind b v.state.next l i g (class_counts c)
        (ap (λ (s : State). s.next) x.state ∙ class_state_next (is_decorated ck) b.id (get_or notes w.at blank).marked r.state))
        (words_live a (label_at ws w.at) kk w.state (role_4 (label_at ws w.at) kind) (live_kids f.ready h a w.state.default kind ∙ g) (label_at ws (w.at + 1)) (visit sc ck (fresh n)).here (class_at f.ready h a w.state.default kind sc)
        ∙ ap (λ (y : Around). words (visit y kk (fresh n)).fresh ++ words (class_fresh (is_decorated (class_kids kk)) (id_of (class_kids kk)) (mentioned (id_of (class_kids kk)) (elements_of (visit sc ck (fresh n)).here)) (visit y kk (fresh n)).after))
        (scope true b l i)
        ∙ ap (λ (xs : List ℕ). xs ++ words (class_fresh (is_decorated (class_kids kk)) (id_of (class_kids kk)) (mentioned (id_of (class_kids kk)) (elements_of (visit sc ck (fresh n)).here)) (visit b kk (fresh n)).after))
        (below_words b row)
        ∙ ap (λ (s : State). below ++ words (class_fresh (is_decorated (class_kids kk)) (id_of (class_kids kk)) (mentioned (id_of (class_kids kk)) (elements_of (visit sc ck (fresh n)).here)) s))
        (below_kids f.ready h a w.state.default b (class_counts c) row)
        ∙ ap (λ (xs : List Label). below ++ words xs)
        (ap (λ (g : Trees). class_fresh (is_decorated (class_kids kk)) (id_of (class_kids kk)) (mentioned (id_of (class_kids kk)) g) r.state) (elements_at f.ready h a w.state.default kind)
        ∙ ap (λ (g : Trees). class_fresh (is_decorated g) (id_of g) (mentioned (id_of g) (elements_from ws w.at n)) r.state) (class_kids_lem ws f.ready.whole w.at h kind)
        ∙ search (is_decorated ck) refl g r.state
        ∙ ap (λ (y : Option ℕ). class_fresh (is_decorated ck) y (get_or notes w.at blank).marked r.state) (sym i)))
        (wrote_then c.wrote x.wrote)
