-- A method's and a field's children hold no class, body or member. Assumes nothing.
use Rattle.std.specs.Prelude.{◌≡◌}
use Rattle.std.proofs.Math.Path.{refl}
use Rattle.std.proofs.Math.Bool.{true}
use Rattle.records.specs.Label.{Trees, is}
use Rattle.rewriting.specs.DemandGrammar.{is_key, is_outside, all, of_method, of_field}
use Rattle.rewriting.proofs.DemandShapes.{begins_outside, is_outside_lem, key_outside}

pub method_outside : (k : Trees) → of_method k ≡ true → all is_outside k ≡ true
unfolding of_method
method_outside =
    begins_outside (is 28) _ (λ l. is_outside_lem l 28 refl) (begins_outside is_key _ key_outside (begins_outside (is 36) _ (λ l. is_outside_lem l 36 refl) (λ f e. e)))

pub field_outside : (k : Trees) → of_field k ≡ true → all is_outside k ≡ true
unfolding of_field
field_outside = begins_outside (is 28) _ (λ l. is_outside_lem l 28 refl) (begins_outside is_key _ key_outside (λ f e. e))
