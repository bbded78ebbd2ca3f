mod Preparations
