mod Erasing
