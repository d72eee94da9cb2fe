-- What exchanges over the streams of a listener leave.
use Rattle.std.proofs.Common.{◌≡◌, ◌<◌, length, ℕ, ◌+◌, List, [], ◌∷◌, ◌++◌, Option, inl, inr, Result, Ok, Err, refl, sym, subst, arith, length-append}
use Rattle.office_policy.specs.Meaning.{Meaning}
use Rattle.office_policy.specs.Handled.{IsHandled}
use Rattle.desk_http.specs.declared.fault.HttpFault.{HttpFault}
use Rattle.desk_http.specs.Exchanged.{IsExchanged}
use Rattle.desk_http.specs.Lines.{line_of, lines_of, IsCut, IsWhole}
use Rattle.desk_http.specs.Listening.{Listening, AreServedOver, AreServedWith, HaveServed, IsNext, IsOver}
use Rattle.desk_http.specs.Served.{IsServed, ReadCounts, TellCounts}
use Rattle.desk_http.specs.declared.listener.Stream.{Stream}
use Rattle.desk_http.specs.declared.serve.TheConstants.{MAX_READS}
use Rattle.desk_http.specs.declared.served.Served.{Served}
use Rattle.streams.specs.declared.whole.WriteFailed.{WriteFailed}
use Rattle.streams.specs.declared.counted.Counted.{Counted}
use Rattle.desk_http.proofs.ExchangedFacts.{exchanged, not_begun, none_exchanged, next_exchanged}
use Rattle.desk_http.proofs.LineFacts.{lines_more, put_none, whole_then}

module _ {N Reader Writer X : Type 0} (l : Listening N Reader Writer)
    (remaining : Reader → Option (List ℕ)) (contents : Writer → Option (List ℕ)) (m : Meaning X) where
  -- an exchange by a reader and a writer that were new
  module _ (before after : N) (old new : X) (result : Result Served HttpFault) (stream : Stream Reader Writer)
      (first reader : Counted Reader) (blank writer : Counted Writer) where
    pub is_over : first.inner ≡ stream.reader → first.calls ≡ 0 → first.faults ≡ 0 → blank.inner ≡ stream.writer → blank.faults ≡ 0
        → IsServed (new ≡ old) (IsHandled m old new) (remaining first.inner) (remaining reader.inner) (contents blank.inner) (contents writer.inner) result
        → ReadCounts first.calls reader.calls (first.calls + MAX_READS) first.faults reader.faults result
        → TellCounts blank.faults writer.faults result → l.takes_back before after reader writer result
        → IsOver l remaining contents m before after old new result stream
    is_over from calls faults to none served read wrote taken = record {
      reader = reader;
      writer = writer;
      served = subst (λ (w : Writer). IsServed (new ≡ old) (IsHandled m old new) (remaining stream.reader) (remaining reader.inner) (contents w) (contents writer.inner) result) to
          (subst (λ (x : Reader). IsServed (new ≡ old) (IsHandled m old new) (remaining x) (remaining reader.inner) (contents blank.inner) (contents writer.inner) result) from served);
      read = subst (λ (n : ℕ). ReadCounts 0 reader.calls MAX_READS n reader.faults result) faults
          (subst (λ (n : ℕ). ReadCounts n reader.calls (n + MAX_READS) first.faults reader.faults result) calls read);
      wrote = subst (λ (n : ℕ). TellCounts n writer.faults result) none wrote;
      taken = taken;
    }

  -- what came of the next exchange
  next_came : (before after : N) (old new : X) (r : Result Served HttpFault) → IsNext l remaining contents m before after old new r
      → IsExchanged (new ≡ old) (IsHandled m old new) r
  next_came before after old new r (inl (between, stream, handed, over)) =
      exchanged (new ≡ old) (IsHandled m old new) _ _ _ _ r over.served
  next_came before after old new r (inr (e, handed, is, same)) =
      subst (λ (x : Result Served HttpFault). IsExchanged (new ≡ old) (IsHandled m old new) x) (sym is)
      (not_begun (new ≡ old) (IsHandled m old new) same)

  -- one more
  over_more : (results : List (Result Served HttpFault)) (before between after : N) (old was new : X) (r : Result Served HttpFault)
      → AreServedOver l remaining contents m before between old was results → IsNext l remaining contents m between after was new r
      → AreServedOver l remaining contents m before after old new (results ++ r ∷ [])
  over_more [] before between after old was new r over next = (
    after,
    new,
    subst (λ (n : N). IsNext l remaining contents m n after old new r) over.0
        (subst (λ (x : X). IsNext l remaining contents m between after x new r) over.1 next),
    (refl, refl),
  )
  over_more (x ∷ results) before between after old was new r over next =
      (over.0, over.1, over.2, over_more results over.0 between after over.1 was new r over.3 next)

  -- so many exchanges, with a line for each
  module _ {O : Type 0} (holds : O → Option (List ℕ)) where
    pub record Lined (before now : N) (old current : X) (output wrote : Counted O) (count : ℕ) : Type 0 where
      pub results : List (Result Served HttpFault)
      pub served : HaveServed l remaining contents m before now old current results
      pub count_is : length results ≡ count
      pub lined : IsWhole holds output wrote (lines_of results)

    pub lined_none : (n : N) (x : X) (o : Counted O) → Lined n n x x o o 0
    lined_none n x o = record {
      results = [];
      served = record { over = (refl, refl); exchanged = none_exchanged m x };
      count_is = refl;
      lined = put_none holds o;
    }

    module _ (before between after : N) (old was new : X) (output wrote : Counted O) (count : ℕ) (r : Result Served HttpFault)
        (p : Lined before between old was output wrote count) (next : IsNext l remaining contents m between after was new r) where
      next_served : HaveServed l remaining contents m before after old new (p.results ++ r ∷ [])
      next_served = record {
        over = over_more p.results before between after old was new r p.served.over next;
        exchanged = next_exchanged m old was new p.results r p.served.exchanged (next_came between after was new r next);
      }

      next_length : length (p.results ++ r ∷ []) ≡ count + 1
      next_length = omega (arith, length-append p.results (r ∷ []), p.count_is)

      pub lined_more : (last : Counted O) → IsWhole holds wrote last (line_of r) → Lined before after old new output last (count + 1)
      lined_more last told = record {
        results = p.results ++ r ∷ [];
        served = next_served;
        count_is = next_length;
        lined = rw (lines_more p.results r) (whole_then holds output wrote last (lines_of p.results) (line_of r) p.lined told);
      }

      -- of the line of the last a part is written
      pub lined_cut : (last : Counted O) (failed : WriteFailed) (most : ℕ) → count < most → IsCut holds wrote last (line_of r)
          → AreServedWith l remaining contents m holds before after old new output last most (Err failed)
      lined_cut last failed most more cut = record {
        results = p.results ++ r ∷ [];
        served = next_served;
        count = omega (arith, next_length, more);
        lined = (p.results, r, wrote, refl, p.lined, cut);
      }

    -- there are no more
    pub lined_all : (before now : N) (old current : X) (output wrote : Counted O) (count most : ℕ) (p : Lined before now old current output wrote count)
        → length p.results ≡ most → AreServedWith l remaining contents m holds before now old current output wrote most (Ok (tt {0}))
    lined_all before now old current output wrote count most p is = record {
      results = p.results;
      served = p.served;
      count = is;
      lined = p.lined;
    }
