-- Proves that the small document that was worked out by hand is right.
use Rattle.std.proofs.Common.{refl, inl, inr}
use Rattle.std.specs.Prelude.{codes}
use Rattle.crush_laws.specs.Example.{ExampleIsRight}

pub example_is_right : ExampleIsRight
example_is_right = record {
  spelled = (
    _,
    (_, (codes "50", (refl, refl), refl), (_, (codes "1", (refl, refl), refl), (_, (codes "11", (refl, refl), refl), (_, (codes "0", _, (refl, refl), refl, refl), (_, (codes "01", _, (refl, refl), refl, refl), refl))))),
    (
      _,
      record {
        id = codes "-2";
        behind_id = _;
        behind_alg = _;
        behind_hash = _;
        head = refl;
        number = (refl, refl);
        class_ids = (_, (codes "-3", (refl, refl), refl), refl);
        hash = inr (codes "0", (refl, refl), refl);
        items = (_, (codes "0.5", refl, refl), (_, refl, refl));
      },
      (
        _,
        record {
          id = codes "-1";
          behind_id = _;
          behind_alg = _;
          behind_hash = _;
          head = refl;
          number = (refl, refl);
          class_ids = refl;
          hash = inl refl;
          items = (_, (codes "2.0", refl, refl), refl);
        },
        (
          _,
          record {
            key = codes "ruleset";
            id = codes "3";
            behind_type = _;
            behind_least = _;
            behind_most = _;
            head = refl;
            id_key = inr refl;
            number = (refl, refl);
            min_size = refl;
            max_size = (codes "10", (refl, refl), refl);
            steps = (_, (codes "5", refl, (refl, refl), refl), (_, (_, refl, refl), (_, (codes "-1", (refl, refl), refl), (_, refl, (_, (_, refl, refl), (_, (codes "0", (refl, refl), refl), refl))))));
          },
          refl,
        ),
      ),
    ),
  );
  setting = refl;
  table = refl;
  count = refl;
}
