use Rattle.crush_laws.proofs.ExampleDocument.{example_is_right}
use Rattle.crush_laws.proofs.Read.{texts_are_lawful_documents}
use Rattle.crush_laws.proofs.documents.a_text_is_a_document.Goals as goal

pub returns-clause-law : goal.returns-clause-law
returns-clause-law c = texts_are_lawful_documents

pub returns-clause-example : goal.returns-clause-example
returns-clause-example c = example_is_right
