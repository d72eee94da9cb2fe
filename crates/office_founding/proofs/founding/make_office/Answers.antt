use Rattle.std.proofs.Common.{SFits, w64, inl, inr, [], ◌∷◌, ◌≡◌, sym, ◌∙◌, ap, subst, rules, arith}
use Rattle.std.proofs.lemmas.Int.{to_z-of_z}
use Rattle.sqlite.specs.Values.{bound_value}
use Rattle.sqlite.specs.declared.types.Value.{Value}
use Rattle.sqlite.specs.declared.types.Value.TheVariants.{Int}
use Rattle.sqlite.specs.Held.{state}
use Rattle.office_rows.specs.Causes.{HasFailed}
use Rattle.office_rows.specs.Statements.{begun}
use Rattle.sqlite.specs.Effect.{Database}
use Rattle.sqlite.proofs.StateLemmas.{survives_weaker}
use Rattle.office_words.specs.declared.fault.Fault.TheVariants.{NotAnOffice}
use Rattle.office_words.specs.Changes.{founded_tables}
use Rattle.office_store.proofs.Committed.{trees_of}
use Rattle.office_founding.specs.Founding.{first_user}
use Rattle.office_founding.proofs.FoundingSteps.{all_founded, none_founded, failed_given, refused_given}
use Rattle.office_founding.proofs.founding.make_office.Goals as goal

pub returns-in-Ok-clause-founded : goal.returns-in-Ok-clause-founded
returns-in-Ok-clause-founded g c clean =
    let it = c.in-Ok.ensures.all clean in
    record { is_open = it.1.is_open; settled = sym it.1.committed_is; office = all_founded g.S.Store (record { name = c.args.name.now; team = c.args.team.now; roles = 1; digest = c.args.digest.now }) c.args.listed c.bits_of-bits.ensures.small (record { name = c.as_str-name.ensures.formed; team = c.as_str-team.ensures.formed; roles = omega arith; digest = c.bytes_of-digest.ensures.long }) c.args.conn.now c.requires.empty _ _ _ _ it.0 (search rules) (let fits : SFits w64 c.bits_of-bits.result = search rules in ap (λ (v : Value). bound_value v ∷ []) (c.params-to_sql.ensures ∙ ap Int (to_z-of_z w64 c.bits_of-bits.result fits ∙ c.bits_of-bits.ensures.value))) (rw (c.params-to_sql-2.ensures, c.params-to_sql-3.ensures, c.params-to_sql-4.ensures, c.params-to_sql-5.ensures, c.as_str-name.ensures.text, c.as_str-team.ensures.text, c.bytes_of-digest.ensures.same)) }

pub returns-in-Ok-clause-kept : goal.returns-in-Ok-clause-kept
returns-in-Ok-clause-kept g c clean trees may =
    let it = c.in-Ok.ensures.all clean in
    let office = all_founded g.S.Store (record { name = c.args.name.now; team = c.args.team.now; roles = 1; digest = c.args.digest.now }) c.args.listed c.bits_of-bits.ensures.small (record { name = c.as_str-name.ensures.formed; team = c.as_str-team.ensures.formed; roles = omega arith; digest = c.bytes_of-digest.ensures.long }) c.args.conn.now c.requires.empty _ _ _ _ it.0 (search rules) (let fits : SFits w64 c.bits_of-bits.result = search rules in ap (λ (v : Value). bound_value v ∷ []) (c.params-to_sql.ensures ∙ ap Int (to_z-of_z w64 c.bits_of-bits.result fits ∙ c.bits_of-bits.ensures.value))) (rw (c.params-to_sql-2.ensures, c.params-to_sql-3.ensures, c.params-to_sql-4.ensures, c.params-to_sql-5.ensures, c.as_str-name.ensures.text, c.as_str-team.ensures.text, c.bytes_of-digest.ensures.same)) in
    trees_of (state g.S.Store c.run_founding.new.conn).now trees _ office (g.met.S.Store.settled c.run_founding.new.conn.store trees it.1.is_open may ∙ ap (λ (d : Database). d.trees) it.1.committed_is)

pub returns-in-Ok-clause-crash : goal.returns-in-Ok-clause-crash
returns-in-Ok-clause-crash g c =
    survives_weaker (state g.S.Store c.args.conn.now) (state g.S.Store c.run_founding.new.conn) _ _
    (λ _ trees left. trees_of left.0 trees (founded_tables (record { name = c.args.name.now; team = c.args.team.now; roles = 1; digest = c.args.digest.now }) c.args.listed) (all_founded g.S.Store (record { name = c.args.name.now; team = c.args.team.now; roles = 1; digest = c.args.digest.now }) c.args.listed c.bits_of-bits.ensures.small (record { name = c.as_str-name.ensures.formed; team = c.as_str-team.ensures.formed; roles = omega arith; digest = c.bytes_of-digest.ensures.long }) c.args.conn.now c.requires.empty _ _ _ left.0 left.1 (search rules) (let fits : SFits w64 c.bits_of-bits.result = search rules in ap (λ (v : Value). bound_value v ∷ []) (c.params-to_sql.ensures ∙ ap Int (to_z-of_z w64 c.bits_of-bits.result fits ∙ c.bits_of-bits.ensures.value))) (rw (c.params-to_sql-2.ensures, c.params-to_sql-3.ensures, c.params-to_sql-4.ensures, c.params-to_sql-5.ensures, c.as_str-name.ensures.text, c.as_str-team.ensures.text, c.bytes_of-digest.ensures.same))) left.2) c.run_founding.ensures.crash

pub returns-in-Err-clause-formed : goal.returns-in-Err-clause-formed
returns-in-Err-clause-formed g c clean same =
    let it = c.in-Err.ensures.cause clean in
    let k : c.fault_of_error.result ≡ NotAnOffice = cc in
    (none_founded g.S.Store (record { name = c.args.name.now; team = c.args.team.now; roles = 1; digest = c.args.digest.now }) c.args.listed c.bits_of-bits.ensures.small (record { name = c.as_str-name.ensures.formed; team = c.as_str-team.ensures.formed; roles = omega arith; digest = c.bytes_of-digest.ensures.long }) c.args.conn.now c.requires.empty c.run_founding.new.conn _ _ _ c.in-Err.error it (search rules) (let fits : SFits w64 c.bits_of-bits.result = search rules in ap (λ (v : Value). bound_value v ∷ []) (c.params-to_sql.ensures ∙ ap Int (to_z-of_z w64 c.bits_of-bits.result fits ∙ c.bits_of-bits.ensures.value))) (rw (c.params-to_sql-2.ensures, c.params-to_sql-3.ensures, c.params-to_sql-4.ensures, c.params-to_sql-5.ensures, c.as_str-name.ensures.text, c.as_str-team.ensures.text, c.bytes_of-digest.ensures.same))).0 (sym c.fault_of_error.ensures ∙ k)

pub returns-in-Err-clause-cause : goal.returns-in-Err-clause-cause
returns-in-Err-clause-cause g c clean =
    let old = c.args.conn.now in
    let new = c.run_founding.new.conn in
    let user = first_user c.args.name.now c.args.team.now c.args.digest.now in
    let fault = c.fault_of_error.ensures in
    record {
      cause = record {
        error = c.in-Err.error;
        failed = failed_given g.S.Store user c.args.listed (begun old) new _ _ _ c.in-Err.error (c.in-Err.ensures.cause clean) (search rules) (let fits : SFits w64 c.bits_of-bits.result = search rules in ap (λ (v : Value). bound_value v ∷ []) (c.params-to_sql.ensures ∙ ap Int (to_z-of_z w64 c.bits_of-bits.result fits ∙ c.bits_of-bits.ensures.value))) (rw (c.params-to_sql-2.ensures, c.params-to_sql-3.ensures, c.params-to_sql-4.ensures, c.params-to_sql-5.ensures, c.as_str-name.ensures.text, c.as_str-team.ensures.text, c.bytes_of-digest.ensures.same));
        fault = fault;
      };
      met = elim (c.in-Err.ensures.met clean) [
        | inl failed ↦ inl (subst (HasFailed (state g.S.Store old) (state g.S.Store new)) (sym fault) failed)
        | inr refused ↦ inr (record {
          error = c.in-Err.error;
          refused = refused_given g.S.Store user c.args.listed (begun old) _ _ _ c.in-Err.error refused (search rules) (let fits : SFits w64 c.bits_of-bits.result = search rules in ap (λ (v : Value). bound_value v ∷ []) (c.params-to_sql.ensures ∙ ap Int (to_z-of_z w64 c.bits_of-bits.result fits ∙ c.bits_of-bits.ensures.value))) (rw (c.params-to_sql-2.ensures, c.params-to_sql-3.ensures, c.params-to_sql-4.ensures, c.params-to_sql-5.ensures, c.as_str-name.ensures.text, c.as_str-team.ensures.text, c.bytes_of-digest.ensures.same));
          fault = fault;
        })
      ];
    }

pub returns-in-Err-clause-same : goal.returns-in-Err-clause-same
returns-in-Err-clause-same g c settled clean is_open =
    let back = c.in-Err.ensures.none clean is_open in
    (back.0 ∙ sym settled, back.1)

pub returns-in-Err-clause-crash : goal.returns-in-Err-clause-crash
returns-in-Err-clause-crash g c =
    survives_weaker (state g.S.Store c.args.conn.now) (state g.S.Store c.run_founding.new.conn) _ _
    (λ _ trees left. trees_of left.0 trees (founded_tables (record { name = c.args.name.now; team = c.args.team.now; roles = 1; digest = c.args.digest.now }) c.args.listed) (all_founded g.S.Store (record { name = c.args.name.now; team = c.args.team.now; roles = 1; digest = c.args.digest.now }) c.args.listed c.bits_of-bits.ensures.small (record { name = c.as_str-name.ensures.formed; team = c.as_str-team.ensures.formed; roles = omega arith; digest = c.bytes_of-digest.ensures.long }) c.args.conn.now c.requires.empty _ _ _ left.0 left.1 (search rules) (let fits : SFits w64 c.bits_of-bits.result = search rules in ap (λ (v : Value). bound_value v ∷ []) (c.params-to_sql.ensures ∙ ap Int (to_z-of_z w64 c.bits_of-bits.result fits ∙ c.bits_of-bits.ensures.value))) (rw (c.params-to_sql-2.ensures, c.params-to_sql-3.ensures, c.params-to_sql-4.ensures, c.params-to_sql-5.ensures, c.as_str-name.ensures.text, c.as_str-team.ensures.text, c.bytes_of-digest.ensures.same))) left.2) c.run_founding.ensures.crash
