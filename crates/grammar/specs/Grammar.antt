-- The grammar of document 01 as one table: what each kind is, with which payloads it may stand where, and what stands below it. Definitions only.
use Rattle.std.specs.Prelude.{Bool, true, false, cond, not, List, [], ◌∷◌, ◌++◌, ℕ, ◌+◌, ◌%◌, replicate, eqb, ltb}
use Rattle.words.specs.Table.{lookup}
use Rattle.words.specs.Word.{bit0, bit1, bit2}

-- ---- categories: what a record is

abbrev pub Module : ℕ
Module = 1

abbrev pub Symbols : ℕ
Symbols = 2

abbrev pub Statement : ℕ
Statement = 3

-- an expression, or the name of a key
abbrev pub Expression : ℕ
Expression = 4

abbrev pub Class : ℕ
Class = 5

abbrev pub Id : ℕ
Id = 6

abbrev pub Decorators : ℕ
Decorators = 7

abbrev pub Body : ℕ
Body = 8

abbrev pub Element : ℕ
Element = 9

abbrev pub Parameters : ℕ
Parameters = 10

abbrev pub Parameter : ℕ
Parameter = 11

abbrev pub Code : ℕ
Code = 12

-- ---- slots: what may stand at a place

-- a record of this category; the context is what else its place says of it
pub record Slot : Type 0 where
  pub category : ℕ
  pub context : ℕ

abbrev pub slot : ℕ → ℕ → Slot
slot c x = record { category = c; context = x }

abbrev pub module' : Slot
module' = slot Module 0

abbrev pub symbols : Slot
symbols = slot Symbols 0

-- a statement of a block, a static block or code
abbrev pub statement : Slot
statement = slot Statement 0

-- a statement of the module's own list
abbrev pub own_statement : Slot
own_statement = slot Statement 1

abbrev pub expression : Slot
expression = slot Expression 0

-- a key: 34, 35 or any expression
abbrev pub key : Slot
key = slot Expression 1

-- the class under 4:p
abbrev pub class_under : ℕ → Slot
class_under p = slot Class p

-- the class under 20
abbrev pub class_expression : Slot
class_expression = slot Class 3

abbrev pub id : Slot
id = slot Id 0

-- the decorators of a class, a property or an accessor
abbrev pub decorators : Slot
decorators = slot Decorators 0

-- a method's own decorators; c is 1 if it is a constructor
abbrev pub method_decorators : ℕ → Slot
method_decorators c = slot Decorators c

abbrev pub body : Slot
body = slot Body 0

abbrev pub element : Slot
element = slot Element 0

-- the parameters of a method
abbrev pub method_parameters : Slot
method_parameters = slot Parameters 0

-- the parameters of a 21
abbrev pub function_parameters : Slot
function_parameters = slot Parameters 2

-- a parameter of parameters with the context x, and its decorators
abbrev pub parameter_of : ℕ → Slot
parameter_of x = slot Parameter x

abbrev pub parameter_decorators : ℕ → Slot
parameter_decorators x = slot Decorators x

abbrev pub code : Slot
code = slot Code 0

-- ---- rules of payloads

-- a count, a symbol, a name number, a value, an index, an atom
abbrev pub any : ℕ
any = 0

-- "Payload is 0 unless stated"
abbrev pub zero_only : ℕ
zero_only = 1

abbrev pub two_or_four : ℕ
two_or_four = 2

abbrev pub method_flags : ℕ
method_flags = 3

abbrev pub two_flags : ℕ
two_flags = 4

abbrev pub one_flag : ℕ
one_flag = 5

abbrev pub class_flags : ℕ
class_flags = 6

abbrev pub class_statement : ℕ
class_statement = 7

abbrev pub in_context : ℕ
in_context = 8

abbrev pub decorator_count : ℕ
decorator_count = 9

abbrev pub never : ℕ
never = 10

-- does a rule allow the payload p in the context x
unfoldable pub holds : ℕ → ℕ → ℕ → Bool
holds rule x p = lookup rule (
    (any, true) ∷
    (zero_only, eqb p 0) ∷
    -- 22 "decorate call: 2 or 4"
    (two_or_four, cond (eqb p 2) true (eqb p 4)) ∷
    -- 30 "sum of static 1, constructor 2, has code 4"; "Static with constructor is malformed"
    (method_flags, cond (ltb p 8) (not (eqb (p % 4) 3)) false) ∷
    -- 31 "sum of static 1, has value 2"
    (two_flags, ltb p 4) ∷
    -- 32 "static 1 or 0"; 37 "payload 1 if it has a default"
    (one_flag, ltb p 2) ∷
    -- 26 "sum of id 1, declare 2, heritage 4"; under 4:0 and 4:1 it has an id; under 4:2 and 20 it isn't declare:
    -- "An id is missing only in a class expression or under 4:2. Declare stands only under 4:0 and 4:1."
    (class_flags, cond (ltb p 8) (cond (ltb x 2) (eqb (bit0 p) 1) (eqb (bit1 p) 0)) false) ∷
    -- 4 "0 plain, 1 export, 2 export default"; "4 with 1 or 2 .. only in the module's own list"
    (class_statement, cond (eqb x 1) (ltb p 3) (eqb p 0)) ∷
    -- 6 and 7 "only in the module's own list"; 34 and 35 only as a key
    (in_context, eqb x 1) ∷
    -- 28 under a parameter of a 21: "its parameters' 28 have count 0"
    (decorator_count, cond (eqb x 2) (eqb p 0) true) ∷ []) false

-- ---- the table

-- so many children of a slot, one behind the other
pub record Run : Type 0 where
  pub count : ℕ
  pub slot : Slot

infix 90 ◌of◌
abbrev pub ◌of◌ : ℕ → Slot → Run
n of q = record { count = n; slot = q }

-- of a kind: its category, the rule of its payload and, by context and payload, the runs of its children
pub record Row : Type 0 where
  pub category : ℕ
  pub rule : ℕ
  pub below : ℕ → ℕ → List Run

unfoldable pub row : ℕ → ℕ → (ℕ → ℕ → List Run) → Row
row c r f = record { category = c; rule = r; below = f }

unfoldable pub leaf : ℕ → ℕ → List Run
leaf x p = []

-- the payload counts expressions
unfoldable pub expressions : ℕ → ℕ → List Run
expressions x p = p of expression ∷ []

unfoldable pub one_expression : ℕ → ℕ → List Run
one_expression x p = 1 of expression ∷ []

-- the payload counts statements
unfoldable pub statements : ℕ → ℕ → List Run
statements x p = p of statement ∷ []

unfoldable pub table : List (ℕ × Row)
table =
    -- "1 module: statement count; children 40, then statements."
    (1, row Module any λ x p. 1 of symbols ∷ p of own_statement ∷ []) ∷
    -- "2 expression statement: an expression. 3 block: count; statements."
    (2, row Statement zero_only one_expression) ∷
    (3, row Statement any statements) ∷
    -- "4 class statement: 0 plain, 1 export, 2 export default; a class 26."
    (4, row Statement class_statement λ x p. 1 of class_under p ∷ []) ∷
    -- "5 let: symbol; an expression. 6 export by own name, 7 export default: symbol."
    (5, row Statement any one_expression) ∷
    (6, row Statement in_context leaf) ∷
    (7, row Statement in_context leaf) ∷
    -- "8 atom: any payload. 9 identifier: symbol."
    (8, row Expression any leaf) ∷
    (9, row Expression any leaf) ∷
    -- "10 string, 12 template without holes: name number. 11 whole number: its value."
    (10, row Expression any leaf) ∷
    (11, row Expression any leaf) ∷
    (12, row Expression any leaf) ∷
    -- "13 null, 14 void 0, 15 this."
    (13, row Expression zero_only leaf) ∷
    (14, row Expression zero_only leaf) ∷
    (15, row Expression zero_only leaf) ∷
    -- "16 array: count; expressions. 17 call: argument count; callee, arguments."
    (16, row Expression any expressions) ∷
    (17, row Expression any λ x p. (1 + p) of expression ∷ []) ∷
    -- "18 assignment: target symbol; value. 19 private-in: name number; right side."
    (18, row Expression any one_expression) ∷
    (19, row Expression any one_expression) ∷
    -- "20 class expression: a 26. 21 function: 36, 39; its parameters' 28 have count 0."
    (20, row Expression zero_only λ x p. 1 of class_expression ∷ []) ∷
    (21, row Expression zero_only λ x p. 1 of function_parameters ∷ 1 of code ∷ []) ∷
    -- "22 decorate call: 2 or 4; that many expressions. 23 parameter call: index; expression."
    (22, row Expression two_or_four expressions) ∷
    (23, row Expression any one_expression) ∷
    -- "24 prototype of: expression. 25 other: 256 × form + child count; that many expressions."
    (24, row Expression zero_only one_expression) ∷
    (25, row Expression any λ x p. (p % 256) of expression ∷ []) ∷
    -- "26 class: sum of id 1, declare 2, heritage 4; children 28, id 27 if any, heritage expression if any, 29."
    (26, row Class class_flags λ x p. 1 of decorators ∷ bit0 p of id ∷ bit2 p of expression ∷ 1 of body ∷ []) ∷
    -- "27 id: symbol. 28 decorators: count; expressions. 29 body: count; elements."
    (27, row Id any leaf) ∷
    (28, row Decorators decorator_count expressions) ∷
    (29, row Body any λ x p. p of element ∷ []) ∷
    -- "30 method: sum of static 1, constructor 2, has code 4; children 28, key, 36, and 39 if it has code."
    (30, row Element method_flags λ x p. 1 of method_decorators (bit1 p) ∷ 1 of key ∷ 1 of method_parameters ∷ bit2 p of code ∷ []) ∷
    -- "31 property: sum of static 1, has value 2; children 28, key, value if any."
    (31, row Element two_flags λ x p. 1 of decorators ∷ 1 of key ∷ bit1 p of expression ∷ []) ∷
    -- "32 abstract accessor: static 1 or 0; 28, key. 33 static block: count; statements."
    (32, row Element one_flag λ x p. 1 of decorators ∷ 1 of key ∷ []) ∷
    (33, row Element any statements) ∷
    -- "Key: 34 name or 35 private (payload a name number, 0 is the empty string), or any expression."
    (34, row Expression in_context leaf) ∷
    (35, row Expression in_context leaf) ∷
    -- "36 parameters: count; each 37, payload 1 if it has a default; 28, default if any. 39 code: count; statements."
    (36, row Parameters any λ x p. p of parameter_of x ∷ []) ∷
    (37, row Parameter one_flag λ x p. 1 of parameter_decorators x ∷ p of expression ∷ []) ∷
    (39, row Code any statements) ∷
    -- "40 symbols: S"
    (40, row Symbols any leaf) ∷ []

-- every other kind is malformed
unfoldable pub no_row : Row
no_row = row 0 never leaf

unfoldable pub row_of : ℕ → Row
row_of k = lookup k table no_row

-- may a word of kind k with the payload p stand in a slot
unfoldable pub allowed : Slot → ℕ → ℕ → Bool
allowed q k p = cond (eqb (row_of k).category q.category) (holds (row_of k).rule q.context p) false

-- the slots of runs, one for each child
unfoldable pub slots : List Run → List Slot
slots [] = []
slots (r ∷ rs) = replicate r.count r.slot ++ slots rs

-- the slots of the children of a record of kind k with the payload p that stands in a slot
unfoldable pub slots_below : Slot → ℕ → ℕ → List Slot
slots_below q k p = slots ((row_of k).below q.context p)

-- the kinds whose payload is a symbol: "5 let", "6 export by own name", "7 export default", "9 identifier", "18 assignment", "27 id"
unfoldable pub is_symbol : ℕ → Bool
is_symbol k = lookup k ((5, true) ∷ (6, true) ∷ (7, true) ∷ (9, true) ∷ (18, true) ∷ (27, true) ∷ []) false
