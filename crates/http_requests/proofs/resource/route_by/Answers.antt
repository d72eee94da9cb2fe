use Rattle.std.proofs.Common.{◌≡◌, ◌∙◌, true, false, cond, Ok, Err, ap, sym}
use Rattle.http_requests.specs.Methods.{is_method, method_of, only}
use Rattle.http_requests.specs.declared.refusal.Refusal.TheVariants.{WrongMethod}
use Rattle.http_requests.proofs.resource.route_by.Goals as goal

pub returns-then-is_of : goal.returns-then-is_of
returns-then-is_of c =
    let route = c.args.route in
    let same : is_method (method_of route) c.args.method ≡ true = ap (λ m. is_method m c.args.method) (sym c.method-allowed.ensures) ∙ (sym c.is_of.ensures ∙ c.if-is_of.true) in
    sym (ap (λ b. cond b (Ok route) (Err (WrongMethod (only (method_of route))))) same)

pub returns-else-is_of : goal.returns-else-is_of
returns-else-is_of c =
    let route = c.args.route in
    let other : is_method (method_of route) c.args.method ≡ false = ap (λ m. is_method m c.args.method) (sym c.method-allowed.ensures) ∙ (sym c.is_of.ensures ∙ c.if-is_of.false) in
    ap (λ w. Err (WrongMethod w)) (c.only.ensures ∙ ap only c.method-allowed.ensures) ∙ sym (ap (λ b. cond b (Ok route) (Err (WrongMethod (only (method_of route))))) other)
