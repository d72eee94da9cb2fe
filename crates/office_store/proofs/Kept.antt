-- What a row says of an optional entry.
use Rattle.std.proofs.Common.{◌≡◌, Option, None, Some}
use Rattle.std.specs.Prelude.{option_map}

pub some_shown : {X Y : Type 0} (f : X → Y) (o : Option X) (y : Y) → Some y ≡ option_map f o → (x : X) × (o ≡ Some x) × (y ≡ f x)
some_shown f (Some x) y e = (x, (λ _. Some x), let k : y ≡ f x = cc in k)
some_shown f None y e = absurd cc

pub map_of_map : {X Y Z : Type 0} (g : Y → Z) (f : X → Y) (o : Option X) → option_map g (option_map f o) ≡ option_map (λ x. g (f x)) o
map_of_map g f (Some x) = λ _. Some (g (f x))
map_of_map g f None = λ _. None

pub map_itself : {X : Type 0} (o : Option X) → option_map (λ x. x) o ≡ o
map_itself (Some x) = λ _. Some x
map_itself None = λ _. None
