use Rattle.crush_laws.proofs.Quoted.{named_words_may_follow, words_that_follow_are_named, same_algorithms_are_named}
use Rattle.crush_laws.proofs.expected.a_sentence_names_the_expected_words.Goals as goal

pub returns-clause-named : goal.returns-clause-named
returns-clause-named c = named_words_may_follow

pub returns-clause-only : goal.returns-clause-only
returns-clause-only c = words_that_follow_are_named

pub returns-clause-algorithms : goal.returns-clause-algorithms
returns-clause-algorithms c = same_algorithms_are_named
