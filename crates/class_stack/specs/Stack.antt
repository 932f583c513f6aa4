-- A class stack by its substitutions. Definitions, and that each stack can be used.
use Rattle.std.specs.Prelude.{List}
use Rattle.class_stack.specs.Renaming.{Sub, entries, Usable}
use Rattle.class_stack.specs.declared.ClassStack.{ClassStack}

abbrev pub subs : ClassStack → List Sub
subs s = entries s.symbols s.aliases s.depth

-- a class stack that can be used, as every one can
abbrev pub Ready : ClassStack → Type 0
Ready s = Usable s.symbols s.aliases s.depth

pub ready : (s : ClassStack) → Ready s
ready s = s.ready
