-- The kinds by document 01's numbers. Assumes nothing.
use Rattle.std.specs.Prelude.{◌≡◌, refl, Bool, true, false, cond, ℕ, List, [], ◌∷◌, Option, Some, None, Result, Ok, Err, MatchResult, eqb}
use Rattle.std.specs.Result.{result_ok}
use Rattle.std.proofs.Common.{ap, sym, ◌∙◌, eqb-true}
use Rattle.std.proofs.lemmas.Option.{none-some, same_Some}
use Rattle.words.specs.declared.kinds.Kind.{Kind}
use Rattle.words.specs.declared.kinds.UnknownKind.{UnknownKind}
use Rattle.words.specs.declared.kinds.Kind.TheVariants.{Module, ExpressionStatement, Block, ClassStatement, Let, Export, DefaultExport, Atom, Identifier, String, Number, Template, Null, VoidZero, This, Array, Call, Assignment, PrivateIn, ClassExpression, Function, DecorateCall, ParameterCall, PrototypeOf, Other, Class, Id, Decorators, Body, Method, Property, AbstractAccessor, StaticBlock, Name, PrivateName, Parameters, Parameter, Code, Symbols}

-- ---- "kind:payload in decimal": the kind that each number of a record stands for
abbrev pub number : Kind → ℕ
number Module = 1
number ExpressionStatement = 2
number Block = 3
number ClassStatement = 4
number Let = 5
number Export = 6
number DefaultExport = 7
number Atom = 8
number Identifier = 9
number String = 10
number Number = 11
number Template = 12
number Null = 13
number VoidZero = 14
number This = 15
number Array = 16
number Call = 17
number Assignment = 18
number PrivateIn = 19
number ClassExpression = 20
number Function = 21
number DecorateCall = 22
number ParameterCall = 23
number PrototypeOf = 24
number Other = 25
number Class = 26
number Id = 27
number Decorators = 28
number Body = 29
number Method = 30
number Property = 31
number AbstractAccessor = 32
number StaticBlock = 33
number Name = 34
number PrivateName = 35
number Parameters = 36
number Parameter = 37
number Code = 39
number Symbols = 40

unfoldable pub kinds : List Kind
kinds =
    Module ∷ ExpressionStatement ∷ Block ∷ ClassStatement ∷ Let ∷ Export ∷ DefaultExport ∷ Atom ∷ Identifier ∷ String ∷ Number ∷ Template ∷ Null ∷ VoidZero ∷ This ∷ Array ∷ Call ∷ Assignment ∷ PrivateIn ∷ ClassExpression ∷ Function ∷ DecorateCall ∷ ParameterCall ∷ PrototypeOf ∷ Other ∷ Class ∷ Id ∷ Decorators ∷ Body ∷ Method ∷ Property ∷ AbstractAccessor ∷ StaticBlock ∷ Name ∷ PrivateName ∷ Parameters ∷ Parameter ∷ Code ∷ Symbols ∷ []

-- the first of the kinds that has the number n
unfoldable pub first : ℕ → List Kind → Option Kind
first n [] = None
first n (k ∷ ks) = cond (eqb n (number k)) (Some k) (first n ks)

-- the kind of a number, if it is one's
unfoldable pub named : ℕ → Option Kind
named n = first n kinds

-- what the conversion of a number answers
abbrev pub Decodes : ℕ → Result Kind UnknownKind → Type 0
Decodes n r = MatchResult r (λ k. n ≡ number k) (λ e. (e.0 ≡ n) × (named n ≡ None))

-- a kind has its number, and a number one kind at most
pub named_number : (k : Kind) → named (number k) ≡ Some k
unfolding named first kinds
named_number Module = refl
named_number ExpressionStatement = refl
named_number Block = refl
named_number ClassStatement = refl
named_number Let = refl
named_number Export = refl
named_number DefaultExport = refl
named_number Atom = refl
named_number Identifier = refl
named_number String = refl
named_number Number = refl
named_number Template = refl
named_number Null = refl
named_number VoidZero = refl
named_number This = refl
named_number Array = refl
named_number Call = refl
named_number Assignment = refl
named_number PrivateIn = refl
named_number ClassExpression = refl
named_number Function = refl
named_number DecorateCall = refl
named_number ParameterCall = refl
named_number PrototypeOf = refl
named_number Other = refl
named_number Class = refl
named_number Id = refl
named_number Decorators = refl
named_number Body = refl
named_number Method = refl
named_number Property = refl
named_number AbstractAccessor = refl
named_number StaticBlock = refl
named_number Name = refl
named_number PrivateName = refl
named_number Parameters = refl
named_number Parameter = refl
named_number Code = refl
named_number Symbols = refl

by_first : (n : ℕ) (ks : List Kind) (k : Kind) → first n ks ≡ Some k → n ≡ number k
unfolding first
by_first n [] k e = absurd (none-some k e)
by_first n (h ∷ ks) k e = go (eqb n (number h)) refl e (λ f. by_first n ks k f)
  where
    go : (x : Bool) → eqb n (number h) ≡ x → cond x (Some h) (first n ks) ≡ Some k → (first n ks ≡ Some k → n ≡ number k) → n ≡ number k
    go true q f r = eqb-true n (number h) q ∙ ap number (same_Some h k f)
    go false q f r = r f

pub number_named : (n : ℕ) (k : Kind) → named n ≡ Some k → n ≡ number k
unfolding named
number_named n k e = by_first n kinds k e

-- where the answer is another kind, or none, the number isn't the kind's
pub number_other : {n : ℕ} {o : Option Kind} (k : Kind) → o ≡ named n → (o ≡ Some k → ⊥) → n ≡ number k → ⊥
number_other k a h e = h (a ∙ ap named e ∙ named_number k)

pub number_is : {n : ℕ} {o : Option Kind} (k : Kind) → o ≡ named n → o ≡ Some k → n ≡ number k
number_is {n} k a e = number_named n k (sym a ∙ e)

-- the conversion's answer without its error
pub decoded : (n : ℕ) (r : Result Kind UnknownKind) → Decodes n r → result_ok r ≡ named n
decoded n (Ok k) e = sym (ap named e ∙ named_number k)
decoded n (Err u) e = sym e.1
